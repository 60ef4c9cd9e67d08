-- Those so far are there, each once.
use Rattle.std.proofs.Common.{◌≡◌, [], take, fold}
use Rattle.query_eval.specs.Once.{with_place}
use Rattle.query_eval.proofs.tallies.plan.places_once.Given as goal

abbrev pub invariant-loop-place : goal.invariant-loop-place
invariant-loop-place l = l.once.items ≡ fold with_place [] (take l.place-index l.places)
