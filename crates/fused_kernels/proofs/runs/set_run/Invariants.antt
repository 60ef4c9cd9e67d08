-- the words before j are written, the others are as they were
use Rattle.std.proofs.Common.{◌≡◌, ◌==◌, ℕ, ◌+◌, ◌*◌, ◌/◌, ◌<◌, ◌≤◌, ◌&&◌, ◌||◌, nat_le, nat_lt, length, slice_index_or}
use Rattle.std.specs.Int.{bit_at}
use Rattle.fused_kernels.proofs.runs.set_run.Given as goal

abbrev pub invariant-loop-j : goal.invariant-loop-j
invariant-loop-j l = record {
  long : length l.words ≡ 16;
  from : l.first / 64 ≤ l.j;
  written : (k p : ℕ) → k < l.j → p < 64 → (bit_at (slice_index_or l.words k 0) p == 1) ≡ ((nat_le l.first (64 * k + p) && nat_lt (64 * k + p) l.end) || (bit_at (slice_index_or l.fn.words k 0) p == 1));
  others : (k : ℕ) → l.j ≤ k → slice_index_or l.words k 0 ≡ slice_index_or l.fn.words k 0;
}
