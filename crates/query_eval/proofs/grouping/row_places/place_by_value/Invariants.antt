-- The rows of the words so far have their places.
use Rattle.std.proofs.Common.{◌≡◌, ◌<◌, ◌*◌, ◌∷◌, [], ℕ, true, List, None, Some, cond, get_or, pos}
use Rattle.table_model.specs.Group.{key_of}
use Rattle.transpose_order.specs.Mask.{has}
use Rattle.query_eval.specs.Places.{ArePlaced, IsIndex}
use Rattle.query_eval.specs.Vector.{Vector, row_at}
use Rattle.query_eval.proofs.grouping.row_places.place_by_value.Given as goal

abbrev pub invariant-loop-index : goal.invariant-loop-index
invariant-loop-index l = record {
  index : IsIndex l.initial.places → IsIndex l.places;
  placed : (by : List ℕ) (v : Vector) → ((n : ℕ) → n < 1024 → has l.mask n ≡ true → cond (has l.nulls n) None (Some (get_or l.values n (pos 0))) ∷ [] ≡ key_of by (row_at v n)) → IsIndex l.initial.places → ArePlaced (64 * l.index) by v l.mask l.initial.places.index.entries l.places.index.entries l.out;
}
