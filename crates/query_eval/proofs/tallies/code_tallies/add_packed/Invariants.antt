-- The packed values of the rows so far are in the sums.
use Rattle.std.proofs.Common.{◌≡◌, ◌*◌, ◌^◌, ◌<◌, ℕ, Bool, List, ℤ, get_or, pos, ◌+ℤ◌}
use Rattle.table_model.specs.Group.{IsWithin}
use Rattle.query_eval.specs.CodeSums.{rows_coded}
use Rattle.query_eval.specs.Packed.{ArePacked, packed_sum}
use Rattle.query_eval.specs.Slices.{code_limit, values_below}
use Rattle.query_eval.proofs.tallies.code_tallies.add_packed.Given as goal

abbrev pub invariant-loop-pair : goal.invariant-loop-pair
invariant-loop-pair l = record {
  even : (c : ℕ) → c < code_limit → IsWithin (2 ^ 52 * l.pair) (get_or l.even c (pos 0));
  odd : (c : ℕ) → c < code_limit → IsWithin (2 ^ 52 * l.pair) (get_or l.odd c (pos 0));
  sums : (rows : List Bool) (values : List ℤ) → ArePacked rows values l.packed → (c : ℕ) → c < code_limit → get_or l.even c (pos 0) +ℤ get_or l.odd c (pos 0) ≡ packed_sum (values_below (2 * l.pair) (rows_coded rows l.codes c) values);
}
