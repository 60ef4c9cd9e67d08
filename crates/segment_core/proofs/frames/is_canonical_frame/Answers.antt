-- The packed numbers tell the values apart, so that what is asked of the values is seen at the numbers.
use Rattle.std.proofs.Common.{◌≡◌, ◌↔◌, IsTrue, true, false, ℤ, pos, w64, FitsSigned, refl, sym, ◌∙◌, ap, subst, rules, arith}
use Rattle.std.proofs.lemmas.Int.{to_z-of_z}
use Rattle.frame_delta.specs.Frame.{FrameForm}
use Rattle.segment_core.specs.declared.coded.Coded.TheVariants.{For as InFrame}
use Rattle.segment_core.proofs.CodedLemmas.{value_at-values_of}
use Rattle.segment_core.proofs.ChosenLemmas.{is_canonical_form}
use Rattle.segment_core.proofs.BareFrames.{value_of_bare, bare_is_canonical}
use Rattle.segment_core.proofs.frames.is_canonical_frame.Goals as goal

pub returns-then-width-eq0 : goal.returns-then-width-eq0
returns-then-width-eq0 c =
    let form : FrameForm = c.args.form.now in
    let fits : FitsSigned w64 c.reference.result = search rules in
    let bare : form.width ≡ 0 = sym c.width.ensures.value ∙ c.if-width-eq0.true in
    let allow = subst (λ (z : ℤ). IsTrue c.allow_first.result ↔ (c.args.repeating.now.valueless ≡ true → z ≡ pos 0)) (to_z-of_z w64 c.reference.result fits ∙ c.reference.ensures.value) c.allow_first.ensures in (
      λ yes. bare_is_canonical form c.reference.ensures.form bare c.args.repeating.now.rows c.args.repeating.now.valueless (allow.0 yes),
      λ h. allow.1 (λ v. sym (value_of_bare form c.reference.ensures.form bare 0 (omega arith)) ∙ h.filled.zero v),
    )

pub returns-then-not-allow_first : goal.returns-then-not-allow_first
returns-then-not-allow_first c =
    let form : FrameForm = c.args.form.now in
    let fits : FitsSigned w64 c.value.result = search rules in
    let allow = subst (λ (z : ℤ). IsTrue false ↔ (c.args.repeating.now.valueless ≡ true → z ≡ pos 0)) (to_z-of_z w64 c.value.result fits) c.if-not-allow_first.ensures in (
      λ no. absurd (cc),
      λ h. allow.1 (λ v. c.value.ensures.value ∙ sym (value_at-values_of (InFrame form) 0 (omega arith)) ∙ h.filled.zero v),
    )

pub returns : goal.returns
returns c =
    let form : FrameForm = c.args.form.now in
    let fits : FitsSigned w64 c.value.result = search rules in
    let allow = subst (λ (z : ℤ). IsTrue true ↔ (c.args.repeating.now.valueless ≡ true → z ≡ pos 0)) (to_z-of_z w64 c.value.result fits) c.if-not-allow_first.ensures in (
      λ yes. is_canonical_form c.args.repeating.now.rows c.args.repeating.now.valueless c.unpack.new.numbers (InFrame form) c.unpack.ensures.apart
          (λ v. value_at-values_of (InFrame form) 0 (omega arith) ∙ sym c.value.ensures.value ∙ allow.0 refl v)
          (c.if-not-hold.ensures.0 refl) (ap InFrame (c.if-not-is_least_of.ensures.0 refl)) (c.is_frame_chosen.ensures.0 yes),
      λ h. c.is_frame_chosen.ensures.1 h.chosen,
    )
