-- in each lane, its number, and the rows of the steps so far are written
use Rattle.std.proofs.Common.{◌≡◌, ℕ, ◌%◌, ◌^◌, ◌<◌, slice_index, pos, ◌+ℤ◌}
use Rattle.bit_interleave.specs.Range.{value_at}
use Rattle.native_lanes.specs.Walks.{number_before, number_of_row}
use Rattle.native_lanes.proofs.walk_16.Walk16.write_values.Given as goal

abbrev pub invariant-loop-step : goal.invariant-loop-step
invariant-loop-step l = record {
  numbers : (lane : ℕ) → lane < 64 → slice_index l.numbers lane ≡ number_before l.self lane l.step;
  written : (n : ℕ) → n < 1024 → n % 16 < l.step → pos (number_of_row l.self n) ≡ value_at l.values n +ℤ pos (2 ^ 15);
}
