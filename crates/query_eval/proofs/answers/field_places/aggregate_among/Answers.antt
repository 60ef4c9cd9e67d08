-- The aggregate that was found, or the end.
use Rattle.std.proofs.Common.{sym, ◌∙◌}
use Rattle.query_eval.specs.Aggregate.{same_aggregate}
use Rattle.query_eval.proofs.SeenLemmas.{position_none, position_some}
use Rattle.query_eval.proofs.answers.field_places.aggregate_among.Goals as goal

pub returns-in-None : goal.returns-in-None
returns-in-None c = position_none (same_aggregate c.args.aggregate) c.args.aggregates.now (sym c.find_aggregate.ensures ∙ c.in-None.is)

pub returns-in-Some : goal.returns-in-Some
returns-in-Some c = position_some (same_aggregate c.args.aggregate) c.args.aggregates.now c.in-Some.at (sym c.find_aggregate.ensures ∙ c.in-Some.is)
