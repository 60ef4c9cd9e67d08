-- in each lane, both numbers, and the marks of the steps so far
use Rattle.std.proofs.Common.{◌≡◌, ◌==◌, ℕ, ◌<◌, ◌&&◌, nat_lt, slice_index}
use Rattle.std.specs.Int.{bit_at}
use Rattle.native_lanes.specs.Pairs.{number_passes}
use Rattle.native_lanes.specs.Walks.{number_before, number_at, half_on}
use Rattle.native_lanes.proofs.walk_64.Walk64.marks_beside_half_on.Given as goal

abbrev pub invariant-loop-step : goal.invariant-loop-step
invariant-loop-step l = record {
  numbers : (lane : ℕ) → lane < 16 → slice_index l.numbers lane ≡ number_before l.self lane l.step;
  others : (lane : ℕ) → lane < 16 → slice_index l.others lane ≡ number_before l.other lane l.step;
  marks : (lane r : ℕ) → lane < 16 → r < 64 → (bit_at (slice_index l.marks lane) r == 1) ≡ (nat_lt r l.step && number_passes l.test (half_on (number_at l.self lane r)) (half_on (number_at l.other lane r)));
}
