-- The values' number and sum more.
use Rattle.std.proofs.Common.{rules, FitsSigned, ◌∙◌}
use Rattle.std.specs.Int.{w128}
use Rattle.std.proofs.lemmas.Int.{to_z-of_z}
use Rattle.query_eval.specs.Slices.{values_at}
use Rattle.query_eval.proofs.tallies.tally.Sums.add_rows.Goals as goal

pub returns : goal.returns
returns c = λ before.
    let fits : FitsSigned w128 c.sum_at.result = search rules in
    c.add_many.ensures before (values_at c.args.rows.now c.args.values.now) (c.count_at.ensures.value c.args.values.now) (to_z-of_z w128 _ fits ∙ c.sum_at.ensures)
