-- The sums tell the values apart, so that what is asked of the values is seen at the numbers.
use Rattle.std.proofs.Common.{◌≡◌, ◌↔◌, IsTrue, true, false, ℤ, pos, w64, FitsSigned, refl, sym, ◌∙◌, ap, subst, rules, arith}
use Rattle.std.proofs.lemmas.Int.{to_z-of_z}
use Rattle.frame_delta.specs.Delta.{DeltaForm}
use Rattle.segment_core.specs.declared.coded.Coded.TheVariants.{Delta as InDeltas}
use Rattle.segment_core.proofs.CodedLemmas.{value_at-values_of}
use Rattle.segment_core.proofs.ChosenLemmas.{is_canonical_form}
use Rattle.segment_core.proofs.deltas.are_canonical_deltas.Goals as goal

pub returns-then-not-allow_first : goal.returns-then-not-allow_first
returns-then-not-allow_first c =
    let form : DeltaForm = c.args.form.now in
    let fits : FitsSigned w64 c.value.result = search rules in
    let allow = subst (λ (z : ℤ). IsTrue false ↔ (c.args.repeating.now.valueless ≡ true → z ≡ pos 0)) (to_z-of_z w64 c.value.result fits) c.if-not-allow_first.ensures in (
      λ no. absurd (cc),
      λ h. allow.1 (λ v. c.value.ensures.value ∙ sym (value_at-values_of (InDeltas form) 0 (omega arith)) ∙ h.filled.zero v),
    )

pub returns : goal.returns
returns c =
    let form : DeltaForm = c.args.form.now in
    let fits : FitsSigned w64 c.value.result = search rules in
    let allow = subst (λ (z : ℤ). IsTrue true ↔ (c.args.repeating.now.valueless ≡ true → z ≡ pos 0)) (to_z-of_z w64 c.value.result fits) c.if-not-allow_first.ensures in (
      λ yes. is_canonical_form c.args.repeating.now.rows c.args.repeating.now.valueless c.sum.new.numbers (InDeltas form) c.sum.ensures.apart
          (λ v. value_at-values_of (InDeltas form) 0 (omega arith) ∙ sym c.value.ensures.value ∙ allow.0 refl v)
          (c.if-not-hold.ensures.0 refl) (ap InDeltas (c.if-not-is_least_of.ensures.0 refl)) (c.are_deltas_chosen.ensures.0 yes),
      λ h. c.are_deltas_chosen.ensures.1 h.chosen,
    )
