-- the sums before sum i are raised, the others are as they were
use Rattle.std.proofs.Common.{◌≡◌, ℕ, ◌+◌, ◌/◌, ◌%◌, ◌^◌, ◌<◌, ◌≤◌, length, slice_index}
use Rattle.fused_kernels.proofs.sums.add_halves.Given as goal

abbrev pub invariant-loop-i : goal.invariant-loop-i
invariant-loop-i l = record {
  long : length l.sums ≡ 16;
  done : (k : ℕ) → k < l.i → slice_index l.sums k ≡ slice_index l.fn.sums k + slice_index l.numbers k / 2 ^ l.shift % 2 ^ 32;
  rest : (k : ℕ) → l.i ≤ k → slice_index l.sums k ≡ slice_index l.fn.sums k;
}
