-- A sum of so many values fits in millionths.
use Rattle.std.proofs.Common.{rules, FitsSigned, ◌*ℤ◌, ℤ, pos, sym, subst, ◌∙◌}
use Rattle.std.specs.Int.{w128}
use Rattle.std.proofs.lemmas.Int.{to_z-of_z}
use Rattle.query_eval.proofs.TallyLemmas.{mean-fits}
use Rattle.query_eval.proofs.tallies.tally.Sums.mean.Goals as goal

pub returns-in-None : goal.returns-in-None
returns-in-None c = λ values few small told.
    let held : FitsSigned w128 c.sum.result = search rules in
    let over = simp to_z-of_z at c.in-None.ensures in
    let fits : FitsSigned w128 (c.sum.result *ℤ pos 1000000) = subst (λ (z : ℤ). FitsSigned w128 (z *ℤ pos 1000000)) (sym (c.sum.ensures ∙ (told few small).sum)) (mean-fits values few small) in
    absurd (over fits)
