-- the distances of the rows so far are written
use Rattle.std.proofs.Common.{◌≡◌, ℕ, ◌<◌, length, slice_index, pos, ◌-ℤ◌}
use Rattle.bit_interleave.specs.Range.{value_at}
use Rattle.fused_kernels.proofs.row_codes.write_distances.Given as goal

abbrev pub invariant-loop-row : goal.invariant-loop-row
invariant-loop-row l = record {
  long : length l.codes ≡ 1024;
  written : (n : ℕ) → n < l.row → pos (slice_index l.codes n) ≡ value_at l.values n -ℤ l.reference;
}
