-- The rows of the mask so far have their places.
use Rattle.std.proofs.Common.{◌≡◌, ◌<◌, ℕ, true, List, length, map}
use Rattle.table_model.specs.Group.{key_of}
use Rattle.transpose_order.specs.Mask.{has}
use Rattle.query_eval.specs.Keys.{key_cell}
use Rattle.query_eval.specs.Places.{ArePlaced, IsIndex}
use Rattle.query_eval.specs.Vector.{Vector, row_at}
use Rattle.query_eval.proofs.grouping.row_places.place_by_key.Given as goal

abbrev pub invariant-loop-row : goal.invariant-loop-row
invariant-loop-row l = record {
  long : length l.out ≡ 1024;
  index : IsIndex l.initial.places → IsIndex l.places;
  placed : (by : List ℕ) (v : Vector) → ((n : ℕ) → n < 1024 → has l.mask n ≡ true → map (λ d. key_cell d n) l.columns ≡ key_of by (row_at v n)) → IsIndex l.initial.places → ArePlaced l.row by v l.mask l.initial.places.index.entries l.places.index.entries l.out;
}
