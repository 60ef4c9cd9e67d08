-- The canonical vectors of the segment's own cells are a segment of the same rows, at the same lane widths.
use Rattle.std.proofs.Common.{◌≡◌, ◌∙◌, true, List, map, refl, sym, ap, subst}
use Rattle.segment_core.specs.CodedVector.{VectorForm}
use Rattle.segment_core.specs.Segment.{SegmentForm, batch_of, canonical_forms, canonical_vectors, widths_in, IsMarked}
use Rattle.segment_core.proofs.CanonicalCopies.{canonical_copy_forms, canonical_copy_is_marked, canonical_copy_rows, widths_in-canonical_copy}
use Rattle.segment_core.proofs.ValidLemmas.{has_bytes}
use Rattle.segment_core.proofs.segment.Segment.canonical_copy.Goals as goal

pub invariant_of-result : goal.invariant_of-result
invariant_of-result c =
    let forms : c.in_ok-columns.columns.items ≡ map canonical_vectors c.self.inside.columns.items = c.in_ok-columns.ensures ∙ ap (λ (f : List (List VectorForm)). map canonical_vectors f) c.as_slice.ensures.value in
    subst (λ (f : List (List VectorForm)). IsMarked c.self.inside.rows f true) (sym forms) (canonical_copy_is_marked c.self.inside.rows c.self.inside.columns.items c.self.invariant.segment)

pub returns-clause-widths : goal.returns-clause-widths
returns-clause-widths c =
    let forms : c.in_ok-columns.columns.items ≡ map canonical_vectors c.self.inside.columns.items = c.in_ok-columns.ensures ∙ ap (λ (f : List (List VectorForm)). map canonical_vectors f) c.as_slice.ensures.value in
    ap widths_in forms ∙ widths_in-canonical_copy c.self.inside.columns.items ∙ ap (λ (s : SegmentForm). widths_in s.forms) c.self.view_is

pub returns-clause-valid : goal.returns-clause-valid
returns-clause-valid c = λ table widths.
    has_bytes (record { rows = batch_of c.self.inside.rows c.in_ok-columns.columns.items; forms = c.in_ok-columns.columns.items }) c.self.inside.rows table (invariant_of-result c).segment refl (returns-clause-widths c ∙ widths)

pub returns-clause-value : goal.returns-clause-value
returns-clause-value c =
    let before : List (List VectorForm) = c.self.inside.columns.items in
    let forms : c.in_ok-columns.columns.items ≡ map canonical_vectors before = c.in_ok-columns.ensures ∙ ap (λ (f : List (List VectorForm)). map canonical_vectors f) c.as_slice.ensures.value in
    let rows : batch_of c.self.inside.rows c.in_ok-columns.columns.items ≡ c.args.self.now.rows =
    ap (batch_of c.self.inside.rows) forms ∙ canonical_copy_rows c.self.inside.rows before c.self.invariant.segment ∙ ap (λ (s : SegmentForm). s.rows) c.self.view_is in
    let canonical : c.in_ok-columns.columns.items ≡ canonical_forms (widths_in c.args.self.now.forms) c.args.self.now.rows =
    forms ∙ canonical_copy_forms c.self.inside.rows before c.self.invariant.segment ∙ ap (λ (s : SegmentForm). canonical_forms (widths_in s.forms) s.rows) c.self.view_is in
    λ i. record { rows = rows i; forms = canonical i }
