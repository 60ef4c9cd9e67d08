-- The rows of the words so far are summed, within their bound.
use Rattle.std.proofs.Common.{◌≡◌, ◌*◌, ◌^◌, ◌≤◌, length}
use Rattle.std.specs.Simd.Lanes.{sum_l}
use Rattle.query_eval.specs.Slices.{IsRaised}
use Rattle.query_eval.proofs.tallies.masked_folds.sum_short.Given as goal

abbrev pub invariant-loop-index : goal.invariant-loop-index
invariant-loop-index l = record {
  long : length l.sums ≡ 8;
  few : sum_l l.sums ≤ 2 ^ 53 * (64 * l.index);
  value : IsRaised (2 ^ 52) (64 * l.index) l.rows l.values (sum_l l.sums);
}
