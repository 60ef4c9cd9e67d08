-- The least form of the filled vector stands for the same cells.
use Rattle.std.proofs.Common.{◌≡◌, ℤ, List, sym, ◌∙◌, ap, subst}
use Rattle.transpose_order.specs.Place.{IsLaneWidth}
use Rattle.segment_core.specs.Fill.{filled}
use Rattle.segment_core.specs.Coded.{lane_width_of, least_form}
use Rattle.segment_core.specs.Cover.{Cover}
use Rattle.segment_core.specs.CodedVector.{VectorForm, cells_of, IsVector, StandsFor}
use Rattle.segment_core.proofs.VectorLemmas.{recoded_stands, recoded_is_a_vector}
use Rattle.segment_core.proofs.coded_vector.CodedVector.recoded.Goals as goal

pub returns-clause-value : goal.returns-clause-value
returns-clause-value c =
    let rows : c.in_ok-cover.cover.rows ≡ c.args.self.now.rows = ap (λ (x : Cover). x.rows) c.in_ok-cover.ensures ∙ ap (λ (v : VectorForm). v.rows) c.self.view_is in
    let nulls : c.in_ok-cover.cover.nulls ≡ c.args.self.now.nulls = ap (λ (x : Cover). x.nulls) c.in_ok-cover.ensures ∙ ap (λ (v : VectorForm). v.nulls) c.self.view_is in
    let width : c.lane_width.result ≡ lane_width_of c.args.self.now.coded = c.lane_width.ensures.value ∙ ap (λ (v : VectorForm). lane_width_of v.coded) c.self.view_is in
    let coded : c.in_ok-coded.coded ≡ least_form c.args.coding (lane_width_of c.args.self.now.coded) (filled (cells_of c.args.self.now)) =
    c.in_ok-coded.ensures ∙ ap (λ t. least_form c.args.coding t c.write_filled.new.values) width
    ∙ ap (λ (xs : List ℤ). least_form c.args.coding (lane_width_of c.args.self.now.coded) xs) c.write_filled.ensures.values in
    λ i. record { rows = rows i; nulls = nulls i; coded = coded i }

pub invariant_of-result : goal.invariant_of-result
invariant_of-result c =
    let is : IsVector c.args.self.now = subst (λ (v : VectorForm). IsVector v) c.self.view_is c.self.invariant in
    let width : c.lane_width.result ≡ lane_width_of c.args.self.now.coded = c.lane_width.ensures.value ∙ ap (λ (v : VectorForm). lane_width_of v.coded) c.self.view_is in
    subst (λ (v : VectorForm). IsVector v) (sym (returns-clause-value c)) (recoded_is_a_vector c.args.coding c.args.self.now is (subst IsLaneWidth width c.lane_width.ensures.lanes))

pub returns-clause-stands : goal.returns-clause-stands
returns-clause-stands c =
    let is : IsVector c.args.self.now = subst (λ (v : VectorForm). IsVector v) c.self.view_is c.self.invariant in
    let width : c.lane_width.result ≡ lane_width_of c.args.self.now.coded = c.lane_width.ensures.value ∙ ap (λ (v : VectorForm). lane_width_of v.coded) c.self.view_is in
    subst (λ (v : VectorForm). StandsFor v c.args.self.now) (sym (returns-clause-value c)) (recoded_stands c.args.coding c.args.self.now is (subst IsLaneWidth width c.lane_width.ensures.lanes))
