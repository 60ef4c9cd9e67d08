-- The rows so far are summed, within their bound.
use Rattle.std.proofs.Common.{◌≡◌, ◌+◌, ◌*◌, ◌^◌, Bool, List, ℤ, pos, ◌-ℤ◌, ◌≤ℤ◌}
use Rattle.query_eval.specs.Packed.{ArePacked, packed_sum}
use Rattle.query_eval.specs.Slices.{rows_between, values_below}
use Rattle.query_eval.proofs.tallies.span_tallies.sum_between.Given as goal

abbrev pub invariant-loop-value : goal.invariant-loop-value
invariant-loop-value l = record {
  low : (pos 0 -ℤ pos (2 ^ 52 * l.value-index)) ≤ℤ l.sum;
  high : l.sum ≤ℤ pos (2 ^ 52 * l.value-index);
  sum : (rows : List Bool) (values : List ℤ) → ArePacked rows values l.packed → l.sum ≡ packed_sum (values_below (l.first + l.value-index) (rows_between rows l.first l.end) values);
}
