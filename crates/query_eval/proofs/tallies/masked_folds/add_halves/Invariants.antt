-- The rows of the word so far are summed, each half below its bound.
use Rattle.std.proofs.Common.{◌≡◌, ◌==◌, ℕ, ◌+◌, ◌*◌, ◌^◌, ◌<◌, ◌≤◌, Bool, List}
use Rattle.std.specs.Int.{bit_at}
use Rattle.transpose_order.specs.Mask.{has}
use Rattle.query_eval.specs.Slices.{AreHalves}
use Rattle.query_eval.proofs.tallies.masked_folds.add_halves.Given as goal

abbrev pub invariant-loop-bit : goal.invariant-loop-bit
invariant-loop-bit l = record {
  low : l.low ≤ 2 ^ 32 * (l.first + l.bit);
  high : l.high ≤ 2 ^ 32 * (l.first + l.bit);
  value : (rows : List Bool) → ((b : ℕ) → b < 64 → (bit_at l.word b == 1) ≡ has rows (l.first + b)) → AreHalves l.first rows l.values l.fn.low l.fn.high → AreHalves (l.first + l.bit) rows l.values l.low l.high;
}
