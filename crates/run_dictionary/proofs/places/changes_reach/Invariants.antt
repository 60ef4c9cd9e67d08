-- the changes at the places before this one are counted
use Rattle.std.proofs.Common.{◌≡◌, ◌*◌, ◌≤◌, pos}
use Rattle.bit_interleave.specs.Places.{by_place}
use Rattle.run_dictionary.specs.Runs.{changes_at}
use Rattle.run_dictionary.proofs.PlaceCounts.{count_at_places}
use Rattle.run_dictionary.proofs.places.changes_reach.Given as goal

abbrev pub invariant-loop-place : goal.invariant-loop-place
invariant-loop-place l = (l.count ≡ count_at_places (changes_at (λ n. pos (by_place l.numbers n))) l.place) × (l.count ≤ 16 * l.place)
