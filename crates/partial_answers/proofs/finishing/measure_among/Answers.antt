-- The measure that was found, or the end.
use Rattle.std.proofs.Common.{sym, ◌∙◌}
use Rattle.query_eval.specs.Aggregate.{same_aggregate}
use Rattle.query_eval.proofs.SeenLemmas.{position_none, position_some}
use Rattle.partial_answers.proofs.finishing.measure_among.Goals as goal

pub returns-in-None : goal.returns-in-None
returns-in-None c = position_none (same_aggregate c.args.measure) c.args.measures.now (sym c.find_measure.ensures ∙ c.in-None.is)

pub returns-in-Some : goal.returns-in-Some
returns-in-Some c = position_some (same_aggregate c.args.measure) c.args.measures.now c.in-Some.at (sym c.find_measure.ensures ∙ c.in-Some.is)
