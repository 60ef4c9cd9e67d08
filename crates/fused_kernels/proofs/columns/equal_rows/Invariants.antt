-- the words so far
use Rattle.std.proofs.Common.{◌≡◌, ◌==◌, ℕ, ◌+◌, ◌*◌, ◌<◌, length, slice_index}
use Rattle.std.specs.Int.{bit_at}
use Rattle.std.specs.Ordering.{int_eq}
use Rattle.bit_interleave.specs.Range.{value_at}
use Rattle.fused_kernels.proofs.columns.equal_rows.Given as goal

abbrev pub invariant-loop-j : goal.invariant-loop-j
invariant-loop-j l = record {
  long : length l.words ≡ 16;
  done : (j p : ℕ) → j < l.j → p < 64 → (bit_at (slice_index l.words j) p == 1) ≡ int_eq (value_at l.left (64 * j + p)) (value_at l.right (64 * j + p));
}
