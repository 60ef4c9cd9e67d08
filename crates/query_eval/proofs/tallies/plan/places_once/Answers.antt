-- All are there, each once.
use Rattle.std.proofs.Common.{ℕ, [], fold, ap, ◌∙◌, List}
use Rattle.std.proofs.lemmas.List.{take_all}
use Rattle.query_eval.specs.Once.{places_once, with_place}
use Rattle.query_eval.proofs.tallies.plan.places_once.Goals as goal

pub returns : goal.returns
unfolding places_once
returns c = c.loop-place.invariant ∙ ap (λ (l : List ℕ). fold with_place [] l) (take_all c.loop-place.place-index c.args.places.now c.loop-place-test.false)
