-- One value more in each.
use Rattle.std.proofs.Common.{rules, FitsSigned, w64, ℤ, ◌≡◌, ◌+ℤ◌, subst}
use Rattle.std.specs.Int.{w128}
use Rattle.std.proofs.lemmas.Int.{to_z-of_z}
use Rattle.query_eval.proofs.TallyLemmas.{told_more}
use Rattle.query_eval.proofs.tallies.tally.Sums.add.Goals as goal

pub returns : goal.returns
returns c =
    let value : FitsSigned w64 c.args.value = search rules in
    let wide : FitsSigned w128 c.from.result = search rules in
    let from = simp to_z-of_z at c.from.ensures in
    let sum = simp to_z-of_z at c.add.ensures in
    told_more c.args.self.now _ c.args.value c.saturating_add-self.ensures (subst (λ (z : ℤ). FitsSigned w128 (c.args.self.now.sum +ℤ z) → c.add.new.self ≡ c.args.self.now.sum +ℤ z) from sum)
