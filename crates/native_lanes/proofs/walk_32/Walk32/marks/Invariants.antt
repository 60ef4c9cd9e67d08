-- in each lane, its number, and the marks of the steps so far
use Rattle.std.proofs.Common.{◌≡◌, ◌==◌, ℕ, ◌+◌, ◌%◌, ◌^◌, ◌<◌, ◌&&◌, nat_lt, nat_le, slice_index}
use Rattle.std.specs.Int.{bit_at}
use Rattle.native_lanes.specs.Walks.{number_before, number_at}
use Rattle.native_lanes.proofs.walk_32.Walk32.marks.Given as goal

abbrev pub invariant-loop-step : goal.invariant-loop-step
invariant-loop-step l = record {
  numbers : (lane : ℕ) → lane < 32 → slice_index l.numbers lane ≡ number_before l.self lane l.step;
  marks : (lane r : ℕ) → lane < 32 → r < 32 → (bit_at (slice_index l.marks lane) r == 1) ≡ (nat_lt r l.step && nat_le ((number_at l.self lane r + l.offset) % 2 ^ 32) l.span);
}
