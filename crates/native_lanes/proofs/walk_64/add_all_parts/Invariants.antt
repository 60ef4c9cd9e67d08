-- the sums of the lanes before lane i have grown, the others are as they were
use Rattle.std.proofs.Common.{◌≡◌, ℕ, ◌+◌, ◌/◌, ◌%◌, ◌^◌, ◌<◌, ◌≤◌, length, slice_index}
use Rattle.native_lanes.proofs.walk_64.add_all_parts.Given as goal

abbrev pub invariant-loop-i : goal.invariant-loop-i
invariant-loop-i l = record {
  low_long : length l.low ≡ 16;
  high_long : length l.high ≡ 16;
  low_done : (k : ℕ) → k < l.i → slice_index l.low k ≡ slice_index l.initial.low k + slice_index l.numbers k % 2 ^ 32;
  low_rest : (k : ℕ) → l.i ≤ k → slice_index l.low k ≡ slice_index l.initial.low k;
  high_done : (k : ℕ) → k < l.i → slice_index l.high k ≡ slice_index l.initial.high k + slice_index l.numbers k / 2 ^ 32;
  high_rest : (k : ℕ) → l.i ≤ k → slice_index l.high k ≡ slice_index l.initial.high k;
}
