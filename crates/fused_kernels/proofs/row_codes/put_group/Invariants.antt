-- the rows of the lanes before i are written, the others are as they were
use Rattle.std.proofs.Common.{◌≡◌, ◌≢◌, ℕ, ◌+◌, ◌*◌, ◌%◌, ◌<◌, length, slice_index}
use Rattle.fused_kernels.proofs.row_codes.put_group.Given as goal

abbrev pub invariant-loop-i : goal.invariant-loop-i
invariant-loop-i l = record {
  long : length l.codes ≡ 1024;
  written : (k : ℕ) → k < l.i → slice_index l.codes (64 * k + l.place) ≡ slice_index l.numbers (16 * l.group + k);
  others : (n : ℕ) → n % 64 ≢ l.place → slice_index l.codes n ≡ slice_index l.fn.codes n;
}
