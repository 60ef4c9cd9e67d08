-- the lanes before lane i are taken in, the others are as they were
use Rattle.std.proofs.Common.{◌≡◌, ◌==◌, ℕ, ◌<◌, ◌≤◌, cond, length, slice_index}
use Rattle.std.specs.Int.{bit_at, int_max}
use Rattle.bit_interleave.specs.Range.{value_at}
use Rattle.table_model.specs.Extreme.{turned}
use Rattle.fused_kernels.proofs.extremes.raise.Given as goal

abbrev pub invariant-loop-i : goal.invariant-loop-i
invariant-loop-i l = record {
  long : length l.greatests ≡ 16;
  done : (k : ℕ) → k < l.i → value_at l.greatests k ≡ cond (bit_at (slice_index l.words k) l.place == 1) (int_max (value_at l.fn.greatests k) (turned l.side (value_at l.numbers k))) (value_at l.fn.greatests k);
  rest : (k : ℕ) → l.i ≤ k → value_at l.greatests k ≡ value_at l.fn.greatests k;
}
