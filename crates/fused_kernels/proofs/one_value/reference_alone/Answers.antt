-- Nothing is added to the reference.
use Rattle.std.proofs.Common.{rules, FitsSigned, sym, ◌∙◌}
use Rattle.std.specs.Int.{w64}
use Rattle.std.proofs.lemmas.Int.{to_z-of_z}
use Rattle.fused_kernels.proofs.OneValueLemmas.{reference_is_value}
use Rattle.fused_kernels.proofs.one_value.reference_alone.Goals as goal

pub returns-then-width-eq0-clause-value : goal.returns-then-width-eq0-clause-value
returns-then-width-eq0-clause-value c n =
    let fits : FitsSigned w64 c.reference.result = search rules in
    reference_is_value c.args.form.now n c.reference.ensures.form (sym c.width.ensures.value ∙ c.if-width-eq0.true)
    ∙ sym c.reference.ensures.value ∙ sym (to_z-of_z w64 c.reference.result fits)
