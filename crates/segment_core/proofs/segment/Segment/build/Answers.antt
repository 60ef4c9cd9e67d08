-- The canonical vectors of a batch are a segment, and stand for its rows.
use Rattle.std.proofs.Common.{◌≡◌, ℕ, List, length, refl, sym, ◌∙◌, ap, subst}
use Rattle.segment_core.specs.CodedVector.{VectorForm}
use Rattle.segment_core.specs.Segment.{batch_of, canonical_forms, widths_of, widths_in, IsSegment}
use Rattle.segment_core.proofs.BuildLemmas.{canonical_is_segment, canonical_rows}
use Rattle.segment_core.proofs.ValidLemmas.{has_bytes}
use Rattle.segment_core.proofs.WidthLemmas.{widths_in-canonical}
use Rattle.segment_core.proofs.segment.Segment.build.Goals as goal

pub returns-clause-widths : goal.returns-clause-widths
returns-clause-widths c =
    ap widths_in c.in_ok-columns.ensures.forms ∙ widths_in-canonical (widths_of c.args.schema.now) c.args.rows.now c.requires.some

pub invariant_of-result : goal.invariant_of-result
invariant_of-result c =
    let made : List (List VectorForm) = c.in_ok-columns.columns.items in
    let forms : made ≡ canonical_forms (widths_of c.args.schema.now) c.args.rows.now = c.in_ok-columns.ensures.forms in
    let rows : batch_of c.len.result made ≡ c.args.rows.now =
    ap (λ (n : ℕ). batch_of n made) c.len.ensures ∙ ap (λ (f : List (List VectorForm)). batch_of (length c.args.rows.now) f) forms ∙ canonical_rows c.args.schema.now c.args.rows.now c.requires in
    record {
      segment = subst (λ (n : ℕ). IsSegment n made) (sym c.len.ensures) (subst (λ (f : List (List VectorForm)). IsSegment (length c.args.rows.now) f) (sym forms)
          (canonical_is_segment c.args.schema.now c.args.rows.now c.canonical_columns.ensures.table c.requires));
      canonical = λ _. forms ∙ ap (λ (widths : List ℕ). canonical_forms widths c.args.rows.now) (sym (returns-clause-widths c))
          ∙ ap (canonical_forms (widths_in made)) (sym rows);
    }

pub returns-clause-valid : goal.returns-clause-valid
returns-clause-valid c =
    has_bytes (record { rows = batch_of c.len.result c.in_ok-columns.columns.items; forms = c.in_ok-columns.columns.items }) c.len.result c.args.schema.now (invariant_of-result c).segment refl (returns-clause-widths c)

pub returns-clause-value : goal.returns-clause-value
returns-clause-value c =
    let forms : c.in_ok-columns.columns.items ≡ canonical_forms (widths_of c.args.schema.now) c.args.rows.now = c.in_ok-columns.ensures.forms in
    let rows : batch_of c.len.result c.in_ok-columns.columns.items ≡ c.args.rows.now =
    ap (λ (n : ℕ). batch_of n c.in_ok-columns.columns.items) c.len.ensures ∙ ap (λ (f : List (List VectorForm)). batch_of (length c.args.rows.now) f) forms ∙ canonical_rows c.args.schema.now c.args.rows.now c.requires in
    λ i. record { rows = rows i; forms = forms i }
