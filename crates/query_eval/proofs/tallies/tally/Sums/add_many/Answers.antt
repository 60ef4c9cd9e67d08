-- The values' number and sum more.
use Rattle.std.proofs.Common.{rules, FitsSigned}
use Rattle.std.specs.Int.{w128}
use Rattle.std.proofs.lemmas.Int.{to_z-of_z}
use Rattle.query_eval.proofs.TallyLemmas.{told_many}
use Rattle.query_eval.proofs.tallies.tally.Sums.add_many.Goals as goal

pub returns : goal.returns
returns c = λ values more many all.
    let given : FitsSigned w128 c.args.sum = search rules in
    let sum = simp to_z-of_z at c.add.ensures in
    told_many c.args.self.now _ more c.args.count c.args.sum many all c.saturating_add-self.ensures sum values
