-- The rows of the words so far are summed, each half below its bound.
use Rattle.std.proofs.Common.{◌*◌, ◌^◌, ◌≤◌}
use Rattle.query_eval.specs.Slices.{AreHalves}
use Rattle.query_eval.proofs.tallies.masked_folds.sum_halves.Given as goal

abbrev pub invariant-loop-index : goal.invariant-loop-index
invariant-loop-index l = record {
  low : l.low ≤ 2 ^ 32 * (64 * l.index);
  high : l.high ≤ 2 ^ 32 * (64 * l.index);
  value : AreHalves (64 * l.index) l.rows l.values l.low l.high;
}
