-- The slices so far part the rows of the mask with a code below the next one; those from it on are left.
use Rattle.std.proofs.Common.{◌≡◌, ◌==◌, ◌<◌, ◌∷◌, [], ◌&&◌, ℕ, true, List, length, nat_le, get_or}
use Rattle.table_model.specs.Group.{key_of}
use Rattle.transpose_order.specs.Mask.{has}
use Rattle.query_eval.specs.Coded.{cell_of_code}
use Rattle.query_eval.specs.Places.{IsIndex}
use Rattle.query_eval.specs.Slices.{AreSliced, code_limit}
use Rattle.query_eval.specs.Vector.{Vector, row_at}
use Rattle.query_eval.specs.declared.grouping.split.Slice.{Slice}
use Rattle.query_eval.proofs.grouping.code_slices.slice_codes.Given as goal

abbrev pub invariant-loop-code : goal.invariant-loop-code
invariant-loop-code l = record {
  index : IsIndex l.initial.places → IsIndex l.places;
  sliced : (by : List ℕ) (v : Vector) → ((n : ℕ) → n < 1024 → has l.mask n ≡ true → cell_of_code l.count l.keys (get_or l.codes n 0) ∷ [] ≡ key_of by (row_at v n)) → IsIndex l.initial.places → AreSliced by v l.mask l.left l.initial.places.index.entries l.places.index.entries l.slices.items;
  few : (i : ℕ) (slice : Slice) → i < length l.slices.items → (get_or l.slices.items i slice).code < code_limit;
  rows : (i n : ℕ) (slice : Slice) → i < length l.slices.items → n < 1024 → has (get_or l.slices.items i slice).rows n ≡ (has l.mask n && (get_or l.codes n 0 == (get_or l.slices.items i slice).code));
  left : (n : ℕ) → n < 1024 → has l.left n ≡ (has l.mask n && nat_le l.code (get_or l.codes n 0));
}
