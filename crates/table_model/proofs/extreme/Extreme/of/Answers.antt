-- One value more.
use Rattle.std.proofs.Common.{get_or, pos, Option, Some, ℤ, FitsSigned, w64, rules, sym, ap, ◌∙◌}
use Rattle.std.proofs.lemmas.Int.{to_z-of_z}
use Rattle.table_model.specs.Extreme.{further}
use Rattle.table_model.proofs.Extremes.{extreme-step, no_extreme}
use Rattle.table_model.proofs.extreme.Extreme.of.Goals as goal

pub loop-value-init : goal.loop-value-init
loop-value-init c = sym (no_extreme c.args.self)

pub loop-value-preserved : goal.loop-value-preserved
loop-value-preserved c =
    let i = c.loop-value.value-index in
    let xs = c.args.values.now in
    let fits : FitsSigned w64 (get_or xs i (pos 0)) = search rules in
    let taken = simp to_z-of_z at c.further-furthest.ensures in
    taken ∙ ap (λ (o : Option ℤ). further c.args.self o (Some (get_or xs i (pos 0)))) c.loop-value.invariant ∙ sym (extreme-step c.args.self xs i (pos 0) c.loop-value-test.true)
