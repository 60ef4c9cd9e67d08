-- A canonical vector has the values of the filled vector, in the least form of the chosen coding; and no other vector has.
use Rattle.std.proofs.Common.{◌≡◌, ◌↔◌, IsTrue, refl, sym, ◌∙◌, ap, subst, arith}
use Rattle.segment_core.specs.Fill.{filled}
use Rattle.segment_core.specs.Coded.{lane_width_of, values_of}
use Rattle.segment_core.specs.Choice.{choice}
use Rattle.segment_core.specs.CodedVector.{VectorForm, cells_of, IsVector}
use Rattle.segment_core.specs.CanonicalForm.{IsCanonicalForm}
use Rattle.segment_core.specs.declared.coded.Coded.{Coded}
use Rattle.segment_core.proofs.CodedLemmas.{length-values_of}
use Rattle.segment_core.proofs.VectorLemmas.{cells_of-under, canonical_parts, canonical_from, lane_width_is}
use Rattle.segment_core.proofs.coded_vector.CodedVector.is_canonical_in.Goals as goal

pub returns : goal.returns
returns c =
    let v : VectorForm = c.args.self.now in
    let is : IsVector v = c.rows.ensures.form in
    let coded : c.self.inside.coded ≡ v.coded = ap (λ (x : VectorForm). x.coded) c.self.view_is in
    let under = ap filled (cells_of-under v c.rows.result c.null_rows.result (values_of v.coded) (sym c.rows.ensures.value) (omega (arith, c.rows.ensures.value, is.limit)) c.null_rows.ensures refl) in
    let fill = c.of-repeating.ensures (values_of v.coded) (length-values_of v.coded) in
    let judged = subst (λ (x : Coded). IsTrue c.is_canonical.result ↔ IsCanonicalForm c.of-repeating.result.rows c.of-repeating.result.valueless x) coded c.is_canonical.ensures in (
      λ yes. let h = judged.0 yes in
          let full : values_of v.coded ≡ filled (cells_of v) = fill.1 h.filled ∙ under in
          canonical_from v (lane_width_of v.coded) is refl full h.least (ap (choice (lane_width_of v.coded)) (sym full) ∙ h.chosen),
      λ e. let parts = canonical_parts v (lane_width_of v.coded) is (lane_width_is v.coded is.form) refl e in
          judged.1 (record {
            filled = fill.0 (parts.values ∙ sym under);
            least = parts.least;
            chosen = ap (choice (lane_width_of v.coded)) parts.values ∙ parts.chosen;
          }),
    )
