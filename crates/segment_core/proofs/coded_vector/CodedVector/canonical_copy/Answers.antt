-- The least form that is chosen for the filled vector, with the same null mask, is the canonical vector.
use Rattle.std.proofs.Common.{◌≡◌, ℤ, List, length, sym, ◌∙◌, ap, subst}
use Rattle.segment_core.specs.Fill.{filled}
use Rattle.segment_core.specs.Coded.{lane_width_of, least_form}
use Rattle.segment_core.specs.Choice.{canonical_form}
use Rattle.segment_core.specs.Cover.{Cover}
use Rattle.segment_core.specs.CodedVector.{VectorForm, cells_of, null_mask, IsVector}
use Rattle.segment_core.specs.declared.coding.Coding.{Coding}
use Rattle.segment_core.proofs.VectorLemmas.{length-cells_of, null_mask-cells_of}
use Rattle.segment_core.proofs.CanonicalCopies.{canonical_of_is_a_vector}
use Rattle.segment_core.proofs.coded_vector.CodedVector.canonical_copy.Goals as goal

pub returns : goal.returns
returns c =
    let v : VectorForm = c.args.self.now in
    let is : IsVector v = subst (λ (x : VectorForm). IsVector x) c.self.view_is c.self.invariant in
    let rows : c.in_ok-cover.cover.rows ≡ length (cells_of v) = ap (λ (x : Cover). x.rows) c.in_ok-cover.ensures ∙ ap (λ (x : VectorForm). x.rows) c.self.view_is ∙ sym (length-cells_of v) in
    let nulls : c.in_ok-cover.cover.nulls ≡ null_mask (cells_of v) = ap (λ (x : Cover). x.nulls) c.in_ok-cover.ensures ∙ ap (λ (x : VectorForm). x.nulls) c.self.view_is ∙ sym (null_mask-cells_of v is) in
    let width : c.lane_width-lane_width.result ≡ lane_width_of v.coded = c.lane_width-lane_width.ensures.value ∙ ap (λ (x : VectorForm). lane_width_of x.coded) c.self.view_is in
    let coded : c.in_ok-coded.coded ≡ canonical_form (lane_width_of v.coded) (filled (cells_of v)) =
    c.in_ok-coded.ensures ∙ ap (λ (k : Coding). least_form k c.lane_width-lane_width.result c.write_filled.new.values) c.choose.ensures.value
    ∙ ap (λ (xs : List ℤ). canonical_form c.lane_width-lane_width.result xs) c.write_filled.ensures.values ∙ ap (λ t. canonical_form t (filled (cells_of v))) width in
    λ i. record { rows = rows i; nulls = nulls i; coded = coded i }

pub invariant_of-result : goal.invariant_of-result
invariant_of-result c =
    let is : IsVector c.args.self.now = subst (λ (v : VectorForm). IsVector v) c.self.view_is c.self.invariant in
    subst (λ (v : VectorForm). IsVector v) (sym (returns c)) (canonical_of_is_a_vector c.args.self.now is)
