-- the numbers before number i are raised
use Rattle.std.proofs.Common.{◌≡◌, ◌==◌, ℕ, ◌^◌, ◌<◌, cond, length, slice_index, pos, ◌+ℤ◌}
use Rattle.std.specs.Int.{bit_at}
use Rattle.bit_interleave.specs.Range.{value_at}
use Rattle.fused_kernels.proofs.sums.raised_at.Given as goal

abbrev pub invariant-loop-i : goal.invariant-loop-i
invariant-loop-i l = record {
  long : length l.raised ≡ 16;
  done : (k : ℕ) → k < l.i → pos (slice_index l.raised k) ≡ cond (bit_at (slice_index l.words k) l.place == 1) (value_at l.numbers k +ℤ pos (2 ^ 63)) (pos 0);
}
