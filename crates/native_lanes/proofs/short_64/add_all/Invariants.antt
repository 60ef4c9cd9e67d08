-- the sums of the lanes before lane i have grown, the others are as they were
use Rattle.std.proofs.Common.{◌≡◌, ℕ, ◌+◌, ◌<◌, ◌≤◌, length, slice_index}
use Rattle.native_lanes.proofs.short_64.add_all.Given as goal

abbrev pub invariant-loop-i : goal.invariant-loop-i
invariant-loop-i l = record {
  long : length l.sums ≡ 16;
  done : (k : ℕ) → k < l.i → slice_index l.sums k ≡ slice_index l.initial.sums k + slice_index l.numbers k;
  rest : (k : ℕ) → l.i ≤ k → slice_index l.sums k ≡ slice_index l.initial.sums k;
}
