-- Those so far are there, each once.
use Rattle.std.proofs.Common.{◌≡◌, [], take, fold}
use Rattle.query_eval.specs.Once.{with_aggregate}
use Rattle.query_eval.proofs.tallies.plan.aggregates_once.Given as goal

abbrev pub invariant-loop-aggregate : goal.invariant-loop-aggregate
invariant-loop-aggregate l = l.once.items ≡ fold with_aggregate [] (take l.aggregate-index l.aggregates)
