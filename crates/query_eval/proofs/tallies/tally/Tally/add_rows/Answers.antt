-- The further of the values' extreme and what there was.
use Rattle.std.proofs.Common.{subst}
use Rattle.query_eval.specs.Slices.{values_at}
use Rattle.query_eval.specs.Tally.{IsTally}
use Rattle.query_eval.specs.declared.tallies.tally.Tally.{Tally}
use Rattle.query_eval.proofs.ExtremeLemmas.{extreme_many}
use Rattle.query_eval.proofs.tallies.tally.Tally.add_rows.Goals as goal

pub returns-in-Extreme-clause-values : goal.returns-in-Extreme-clause-values
returns-in-Extreme-clause-values c = λ values h.
    extreme_many c.in-Extreme.extreme c.in-Extreme.before c.further.result c.extreme_at.result (values_at c.args.rows.now c.args.values.now) c.extreme_at.ensures c.further.ensures values (subst (λ (t : Tally). IsTally values t) c.in-Extreme.is h)
