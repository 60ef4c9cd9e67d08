-- The canonical vectors of a batch are a segment, and stand for its rows.
use Rattle.std.proofs.Common.{◌≡◌, ℕ, List, length, refl, sym, ◌∙◌, ap, subst, arith}
use Rattle.table_model.specs.State.{Batch}
use Rattle.segment_core.specs.Arrays.{array_rows}
use Rattle.segment_core.specs.CodedVector.{VectorForm}
use Rattle.segment_core.specs.Segment.{batch_of, canonical_forms, widths_of, widths_in, IsSegment}
use Rattle.segment_core.proofs.ArrayLemmas.{built_rows, length-array_rows}
use Rattle.segment_core.proofs.BuildLemmas.{canonical_is_segment}
use Rattle.segment_core.proofs.ValidLemmas.{has_bytes}
use Rattle.segment_core.proofs.WidthLemmas.{widths_in-canonical}
use Rattle.segment_core.proofs.segment.Segment.build_of_arrays.Goals as goal

pub overflow_cast-result : goal.overflow_cast-result
overflow_cast-result c = omega (arith, c.requires.batch.limit, length-array_rows c.args.rows c.args.arrays.now)

pub returns-clause-widths : goal.returns-clause-widths
returns-clause-widths c =
    let rows : Batch = array_rows c.args.rows c.args.arrays.now in
    ap widths_in c.in_ok-columns.ensures.forms ∙ widths_in-canonical (widths_of c.args.schema.now) rows c.requires.batch.some

pub invariant_of-result : goal.invariant_of-result
invariant_of-result c =
    let rows : Batch = array_rows c.args.rows c.args.arrays.now in
    let made : List (List VectorForm) = c.in_ok-columns.columns.items in
    let forms : made ≡ canonical_forms (widths_of c.args.schema.now) rows = c.in_ok-columns.ensures.forms in
    record {
      segment = subst (λ (n : ℕ). IsSegment n made) (length-array_rows c.args.rows c.args.arrays.now) (subst (λ (f : List (List VectorForm)). IsSegment (length rows) f) (sym forms)
          (canonical_is_segment c.args.schema.now rows c.canonical_arrays.ensures.table c.requires.batch));
      canonical = λ _. forms ∙ ap (λ (widths : List ℕ). canonical_forms widths rows) (sym (returns-clause-widths c))
          ∙ ap (canonical_forms (widths_in made)) (sym (built_rows c.args.schema.now c.args.rows c.args.arrays.now made c.requires.batch forms));
    }

pub returns-clause-valid : goal.returns-clause-valid
returns-clause-valid c =
    has_bytes (record { rows = batch_of c.args.rows c.in_ok-columns.columns.items; forms = c.in_ok-columns.columns.items }) c.args.rows c.args.schema.now (invariant_of-result c).segment refl (returns-clause-widths c)

pub returns-clause-value : goal.returns-clause-value
returns-clause-value c =
    let rows = built_rows c.args.schema.now c.args.rows c.args.arrays.now c.in_ok-columns.columns.items c.requires.batch c.in_ok-columns.ensures.forms in
    λ i. record { rows = rows i; forms = c.in_ok-columns.ensures.forms i }
