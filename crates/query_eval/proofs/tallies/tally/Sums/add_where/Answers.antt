-- One value more in each, or none.
use Rattle.std.proofs.Common.{rules, FitsSigned, w64, ℤ, ◌≡◌, ◌+ℤ◌, subst}
use Rattle.std.specs.Int.{w128}
use Rattle.std.proofs.lemmas.Int.{to_z-of_z}
use Rattle.query_eval.proofs.TallyLemmas.{told_where}
use Rattle.query_eval.proofs.tallies.tally.Sums.add_where.Goals as goal

pub returns : goal.returns
returns c =
    let value : FitsSigned w64 c.args.value = search rules in
    let more : FitsSigned w64 c.value_or_zero-more.result = search rules in
    let wide : FitsSigned w128 c.from-2.result = search rules in
    let from = simp to_z-of_z at c.from-2.ensures in
    let sum = simp to_z-of_z at c.add.ensures in
    let is = simp to_z-of_z at c.value_or_zero-more.ensures in
    told_where c.args.self.now _ c.args.value c.value_or_zero-more.result c.from.result c.args.comes c.from.ensures is c.saturating_add-self.ensures (subst (λ (z : ℤ). FitsSigned w128 (c.args.self.now.sum +ℤ z) → c.add.new.self ≡ c.args.self.now.sum +ℤ z) from sum)
