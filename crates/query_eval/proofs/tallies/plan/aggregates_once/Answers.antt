-- All are there, each once.
use Rattle.std.proofs.Common.{[], fold, ap, ◌∙◌, List}
use Rattle.std.proofs.lemmas.List.{take_all}
use Rattle.query_eval.specs.declared.tallies.aggregate.Aggregate.{Aggregate}
use Rattle.query_eval.specs.Once.{aggregates_once, with_aggregate}
use Rattle.query_eval.proofs.tallies.plan.aggregates_once.Goals as goal

pub returns : goal.returns
unfolding aggregates_once
returns c = c.loop-aggregate.invariant ∙ ap (λ (l : List Aggregate). fold with_aggregate [] l) (take_all c.loop-aggregate.aggregate-index c.args.aggregates.now c.loop-aggregate-test.false)
