-- the rows of the bits so far are written, the others are as they were
use Rattle.std.proofs.Common.{◌≡◌, ◌==◌, ℕ, ◌+◌, ◌<◌, ◌≤◌, cond, length, slice_index}
use Rattle.std.specs.Int.{bit_at}
use Rattle.fused_kernels.proofs.row_codes.put_in_word.Given as goal

abbrev pub invariant-loop-bit : goal.invariant-loop-bit
invariant-loop-bit l = record {
  long : length l.codes ≡ 1024;
  written : (b : ℕ) → b < l.bit → slice_index l.codes (l.first + b) ≡ cond (bit_at l.word b == 1) l.code (slice_index l.fn.codes (l.first + b));
  before : (n : ℕ) → n < l.first → slice_index l.codes n ≡ slice_index l.fn.codes n;
  after : (n : ℕ) → l.first + l.bit ≤ n → slice_index l.codes n ≡ slice_index l.fn.codes n;
}
