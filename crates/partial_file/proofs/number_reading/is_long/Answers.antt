use Rattle.std.proofs.Common.{rules, subst, sym, ◌∙◌, ℤ, FitsSigned, inr, refl}
use Rattle.std.specs.Int.{w64, w128}
use Rattle.std.proofs.lemmas.Bool.{false≢true}
use Rattle.std.proofs.lemmas.Int.{to_z-of_z}
use Rattle.segment_core.proofs.NumberLaws.{fits_in_bits}
use Rattle.partial_file.proofs.Spelled.{long}
use Rattle.partial_file.proofs.number_reading.is_long.Goals as goal

pub returns-in-Some : goal.returns-in-Some
returns-in-Some c =
    let mine : FitsSigned w64 c.in-Some.short = search rules in
    let whole : FitsSigned w128 c.args.value = search rules in
    let is = c.in-Some.ensures.value ∙ to_z-of_z w128 c.args.value whole in
    let fits = subst (λ (z : ℤ). FitsSigned w64 z) is mine in
    rw (fits_in_bits 64 c.args.value (inr (inr (inr refl))) fits) refl

pub returns-in-None : goal.returns-in-None
returns-in-None c =
    let whole : FitsSigned w128 c.args.value = search rules in
    let same = to_z-of_z w128 c.args.value whole in
    rw (long c.args.value (λ fits. false≢true (c.in-None.ensures.answers (subst (λ (z : ℤ). FitsSigned w64 z) (sym same) fits)))) refl
