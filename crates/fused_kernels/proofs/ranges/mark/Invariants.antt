-- the words before word i are marked, the others are as they were
use Rattle.std.proofs.Common.{◌≡◌, ◌==◌, ℕ, ◌<◌, ◌≤◌, ◌&&◌, ◌||◌, length, slice_index}
use Rattle.std.specs.Int.{bit_at}
use Rattle.bit_interleave.specs.Range.{value_at}
use Rattle.fused_kernels.specs.Seen.{between}
use Rattle.fused_kernels.proofs.ranges.mark.Given as goal

abbrev pub invariant-loop-i : goal.invariant-loop-i
invariant-loop-i l = record {
  long : length l.found ≡ 16;
  marked : (j p : ℕ) → j < l.i → p < 64 → (bit_at (slice_index l.found j) p == 1) ≡ ((between l.low l.high (value_at l.numbers j) && (p == l.place)) || (bit_at (slice_index l.initial.found j) p == 1));
  rest : (j : ℕ) → l.i ≤ j → slice_index l.found j ≡ slice_index l.initial.found j;
}
