-- the rows of the words so far are written, the others are as they were
use Rattle.std.proofs.Common.{◌≡◌, ℕ, ◌*◌, ◌<◌, ◌≤◌, cond, length, slice_index}
use Rattle.transpose_order.specs.Mask.{has}
use Rattle.fused_kernels.proofs.row_codes.put_at.Given as goal

abbrev pub invariant-loop-index : goal.invariant-loop-index
invariant-loop-index l = record {
  long : length l.codes ≡ 1024;
  written : (n : ℕ) → n < 64 * l.index → slice_index l.codes n ≡ cond (has l.rows n) l.code (slice_index l.fn.codes n);
  after : (n : ℕ) → 64 * l.index ≤ n → slice_index l.codes n ≡ slice_index l.fn.codes n;
}
