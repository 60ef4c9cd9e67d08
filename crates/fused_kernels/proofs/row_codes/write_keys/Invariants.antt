-- the keys of the codes so far are written
use Rattle.std.proofs.Common.{◌≡◌, ℕ, ◌<◌, length, pos, ◌+ℤ◌}
use Rattle.bit_interleave.specs.Range.{value_at}
use Rattle.fused_kernels.proofs.row_codes.write_keys.Given as goal

abbrev pub invariant-loop-code : goal.invariant-loop-code
invariant-loop-code l = record {
  long : length l.keys ≡ 1024;
  written : (k : ℕ) → k < l.code → value_at l.keys k ≡ l.reference +ℤ pos k;
}
