-- The rows of the word so far have their places.
use Rattle.std.proofs.Common.{◌≡◌, ◌==◌, ◌+◌, ◌<◌, ◌∷◌, [], ℕ, Bool, true, List, None, Some, cond, length, get_or, pos}
use Rattle.query_eval.specs.Entries.{Entries}
use Rattle.std.specs.Int.{bit_at}
use Rattle.table_model.specs.Group.{key_of}
use Rattle.transpose_order.specs.Mask.{has}
use Rattle.query_eval.specs.Places.{ArePlaced, IsIndex}
use Rattle.query_eval.specs.Vector.{Vector, row_at}
use Rattle.query_eval.proofs.grouping.row_places.place_word.Given as goal

abbrev pub invariant-loop-bit : goal.invariant-loop-bit
invariant-loop-bit l = record {
  long : length l.out ≡ 1024;
  index : IsIndex l.initial.places → IsIndex l.places;
  placed : (by : List ℕ) (v : Vector) (mask null_rows : List Bool) (before : Entries) → ((n : ℕ) → n < 1024 → has mask n ≡ true → cond (has null_rows n) None (Some (get_or l.values n (pos 0))) ∷ [] ≡ key_of by (row_at v n)) → ((b : ℕ) → b < 64 → (bit_at l.word b == 1) ≡ has mask (l.first + b)) → ((b : ℕ) → b < 64 → (bit_at l.nulls b == 1) ≡ has null_rows (l.first + b)) → IsIndex l.initial.places → ArePlaced l.first by v mask before l.initial.places.index.entries l.initial.out → ArePlaced (l.first + l.bit) by v mask before l.places.index.entries l.out;
}
