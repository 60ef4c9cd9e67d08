-- the rows of the lanes before i are written, the others are as they were
use Rattle.std.proofs.Common.{◌≡◌, ◌≢◌, ℕ, ◌+◌, ◌*◌, ◌%◌, ◌<◌, length, slice_index}
use Rattle.bit_interleave.specs.Range.{value_at}
use Rattle.fused_kernels.proofs.code_values.put_group.Given as goal

abbrev pub invariant-loop-i : goal.invariant-loop-i
invariant-loop-i l = record {
  long : length l.rows ≡ 1024;
  written : (k : ℕ) → k < l.i → value_at l.rows (64 * k + l.place) ≡ value_at l.values (slice_index l.codes (16 * l.group + k));
  others : (n : ℕ) → n % 64 ≢ l.place → value_at l.rows n ≡ value_at l.fn.rows n;
}
