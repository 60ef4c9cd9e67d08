-- the changes at the place in the words before j are counted
use Rattle.std.proofs.Common.{◌≡◌, ◌+◌, ◌*◌, ◌≤◌, pos}
use Rattle.transpose_order.specs.Mask.{count_below}
use Rattle.bit_interleave.specs.Places.{by_place}
use Rattle.run_dictionary.specs.Runs.{changes_at}
use Rattle.run_dictionary.proofs.places.changes_at_place.Given as goal

abbrev pub invariant-loop-j : goal.invariant-loop-j
invariant-loop-j l = (l.count ≡ count_below (λ j. changes_at (λ n. pos (by_place l.numbers n)) (64 * j + l.place)) l.j) × (l.count ≤ l.j)
