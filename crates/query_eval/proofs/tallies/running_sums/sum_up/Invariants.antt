-- The rows so far have their running sums, and the others their packed values.
use Rattle.std.proofs.Common.{◌≡◌, ◌+◌, ◌*◌, ◌^◌, ◌<◌, ◌≤◌, ℕ, Bool, List, ℤ, get_or, length, pos, ◌+ℤ◌, ◌-ℤ◌, ◌≤ℤ◌}
use Rattle.query_eval.specs.Packed.{ArePacked, IsSmallSum, packed_sum}
use Rattle.query_eval.specs.Slices.{values_below}
use Rattle.query_eval.proofs.tallies.running_sums.sum_up.Given as goal

abbrev pub invariant-loop-row : goal.invariant-loop-row
invariant-loop-row l = record {
  long : length l.packed ≡ 1024;
  low : (pos 0 -ℤ pos (2 ^ 52 * l.row)) ≤ℤ l.sum;
  high : (l.sum +ℤ pos l.row) ≤ℤ pos (2 ^ 52 * l.row);
  rest : (n : ℕ) → l.row ≤ n → n < 1024 → get_or l.packed n (pos 0) ≡ get_or l.initial.packed n (pos 0);
  small : (n : ℕ) → n < l.row → IsSmallSum (get_or l.packed n (pos 0));
  sum : (rows : List Bool) (values : List ℤ) → ArePacked rows values l.initial.packed → l.sum ≡ packed_sum (values_below l.row rows values);
  sums : (rows : List Bool) (values : List ℤ) → ArePacked rows values l.initial.packed → (n : ℕ) → n < l.row → get_or l.packed n (pos 0) ≡ packed_sum (values_below (n + 1) rows values);
}
