-- the sums of the lanes before lane i have grown, the others are as they were
use Rattle.std.proofs.Common.{◌≡◌, ◌==◌, ℕ, ◌+◌, ◌<◌, ◌≤◌, cond, length, slice_index}
use Rattle.std.specs.Int.{bit_at}
use Rattle.native_lanes.proofs.short_64.add_taken.Given as goal

abbrev pub invariant-loop-i : goal.invariant-loop-i
invariant-loop-i l = record {
  long : length l.sums ≡ 16;
  done : (k : ℕ) → k < l.i → slice_index l.sums k ≡ slice_index l.initial.sums k + cond (bit_at (slice_index l.rows k) l.step == 1) (slice_index l.numbers k) 0;
  rest : (k : ℕ) → l.i ≤ k → slice_index l.sums k ≡ slice_index l.initial.sums k;
}
