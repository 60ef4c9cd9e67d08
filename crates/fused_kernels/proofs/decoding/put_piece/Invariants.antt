-- the rows of the lanes before i are written, the others are as they were
use Rattle.std.proofs.Common.{◌≡◌, ◌≢◌, ℕ, ◌+◌, ◌*◌, ◌%◌, ◌<◌, length}
use Rattle.bit_interleave.specs.Range.{value_at}
use Rattle.fused_kernels.proofs.decoding.put_piece.Given as goal

abbrev pub invariant-loop-i : goal.invariant-loop-i
invariant-loop-i l = record {
  long : length l.values ≡ 1024;
  written : (k : ℕ) → k < l.i → value_at l.values (64 * k + l.place) ≡ value_at l.piece k;
  others : (n : ℕ) → n % 64 ≢ l.place → value_at l.values n ≡ value_at l.fn.values n;
}
