-- The rows of the groups so far are summed, within their bound.
use Rattle.std.proofs.Common.{◌≡◌, ◌==◌, ℕ, ◌+◌, ◌*◌, ◌^◌, ◌<◌, ◌≤◌, Bool, List, length}
use Rattle.std.specs.Int.{bit_at}
use Rattle.std.specs.Simd.Lanes.{sum_l}
use Rattle.transpose_order.specs.Mask.{has}
use Rattle.query_eval.specs.Slices.{IsRaised}
use Rattle.query_eval.proofs.tallies.masked_folds.add_short.Given as goal

abbrev pub invariant-loop-group : goal.invariant-loop-group
invariant-loop-group l = record {
  long : length l.sums ≡ 8;
  few : sum_l l.sums ≤ 2 ^ 53 * (l.first + 8 * l.group);
  value : (rows : List Bool) → ((b : ℕ) → b < 64 → (bit_at l.word b == 1) ≡ has rows (l.first + b)) → IsRaised (2 ^ 52) l.first rows l.values (sum_l l.fn.sums) → IsRaised (2 ^ 52) (l.first + 8 * l.group) rows l.values (sum_l l.sums);
}
