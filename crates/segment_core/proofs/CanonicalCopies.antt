-- The canonical vectors of a segment's own cells: a segment of the same rows.
use Rattle.std.proofs.Common.{◌≡◌, true, ℕ, zero, suc, ◌<◌, ℤ, List, [], ◌∷◌, map, length, get_or, slice_get, Option, Some, None, refl, sym, ◌∙◌, ap, subst, arith}
use Rattle.std.proofs.lemmas.List.{same_lists, length-map, get_or_default}
use Rattle.std.proofs.lemmas.Option.{slice_get_within, slice_get-get_or}
use Rattle.table_model.specs.State.{Batch}
use Rattle.segment_core.specs.Coded.{lane_width_of}
use Rattle.segment_core.specs.CodedVector.{VectorForm, cells_of, canonical_vector, canonical_of, IsVector}
use Rattle.segment_core.specs.Segment.{column_cells, cells_in, canonical_column, canonical_forms, canonical_vectors, width_in, widths_in, vector_count, batch_of, IsColumn, IsSegment, IsMarked}
use Rattle.segment_core.proofs.SegmentLemmas.{length-batch_of}
use Rattle.segment_core.proofs.GatherLemmas.{length-column_cells}
use Rattle.segment_core.proofs.VectorLemmas.{length-cells_of, get_or-cells_of, cells_in_range, canonical_cell, canonical_is_a_vector, lane_width_is, lane_width-canonical}
use Rattle.segment_core.proofs.BuildLemmas.{slice_get-canonical_column, length-canonical_column, length-canonical_forms, get_or-canonical_forms}
use Rattle.segment_core.proofs.CellLemmas.{column_part, width_of_vector, same_columns, get_or-widths_in, rows_of_same}

-- ---- lists that were mapped
mapped_at : {X Y : Type 0} (f : X → Y) (xs : List X) (k : ℕ) (y : Y) → slice_get (map f xs) k ≡ Some y → (x : X) × (slice_get xs k ≡ Some x) × (f x ≡ y)
mapped_at f [] k y e = absurd cc
mapped_at f (x ∷ xs) zero y e = (x, refl, cc)
mapped_at f (x ∷ xs) (suc k) y e = mapped_at f xs k y e

found_once : {X : Type 0} (o : Option X) (x y : X) → o ≡ Some x → o ≡ Some y → x ≡ y
found_once o x y e f = cc

-- ---- a vector
pub canonical_of_is_a_vector : (v : VectorForm) → IsVector v → IsVector (canonical_of v)
canonical_of_is_a_vector v is =
    let some = is.some in
    let limit = is.limit in
    let count = length-cells_of v in
    canonical_is_a_vector (lane_width_of v.coded) (cells_of v) (lane_width_is v.coded is.form) (omega arith) (omega arith) (cells_in_range v is)

pub cells_of-canonical_of : (v : VectorForm) → IsVector v → cells_of (canonical_of v) ≡ cells_of v
cells_of-canonical_of v is =
    let limit = is.limit in
    let count = length-cells_of v in
    same_lists (cells_of (canonical_of v)) (cells_of v) (length-cells_of (canonical_of v))
    (λ n d w.
    let below : n < length (cells_of v) = omega (arith, length-cells_of (canonical_of v)) in
    get_or-cells_of (canonical_of v) n d below
    ∙ canonical_cell (lane_width_of v.coded) (cells_of v) n (lane_width_is v.coded is.form) (omega arith) (cells_in_range v is) below
    ∙ get_or_default (cells_of v) n None d below)

-- ---- a column
pub canonical_vectors_are_a_column : (rows : ℕ) (vectors : List VectorForm) → IsColumn rows vectors → IsColumn rows (canonical_vectors vectors)
canonical_vectors_are_a_column rows vectors is = record {
  count = length-map vectors canonical_of ∙ is.count;
  cover = λ k v e.
      let p = mapped_at canonical_of vectors k v e in
      ap (λ (x : VectorForm). x.rows) (sym p.2) ∙ length-cells_of p.0 ∙ is.cover k p.0 p.1;
  one_width = λ j k u v e f.
      let p = mapped_at canonical_of vectors j u e in
      let q = mapped_at canonical_of vectors k v f in
      ap (λ (x : VectorForm). lane_width_of x.coded) (sym p.2) ∙ lane_width-canonical (lane_width_of p.0.coded) (cells_of p.0)
      ∙ is.one_width j k p.0 q.0 p.1 q.1
      ∙ sym (lane_width-canonical (lane_width_of q.0.coded) (cells_of q.0)) ∙ ap (λ (x : VectorForm). lane_width_of x.coded) q.2;
  each = λ k v e.
      let p = mapped_at canonical_of vectors k v e in
      subst (λ (x : VectorForm). IsVector x) p.2 (canonical_of_is_a_vector p.0 (is.each k p.0 p.1));
}

pub canonical_vectors_of_column : (rows : ℕ) (forms : List (List VectorForm)) (c : ℕ) (vectors : List VectorForm) → IsSegment rows forms → slice_get forms c ≡ Some vectors
    → canonical_vectors vectors ≡ canonical_column (width_in vectors) (column_cells (batch_of rows forms) c)
canonical_vectors_of_column rows forms c vectors is column =
    let cells : List (Option ℤ) = column_cells (batch_of rows forms) c in
    let proper : IsColumn rows vectors = is.columns c vectors column in
    let count : length cells ≡ rows = length-column_cells (batch_of rows forms) c ∙ length-batch_of rows forms in
    same_columns (canonical_vectors vectors) (canonical_column (width_in vectors) cells)
    (length-map vectors canonical_of ∙ proper.count ∙ sym (length-canonical_column (width_in vectors) cells ∙ ap vector_count count))
    (λ k v found.
    let p = mapped_at canonical_of vectors k v found in
    let within : k < vector_count (length cells) = let l = slice_get_within vectors k p.0 p.1 in let n = proper.count in omega arith in
    slice_get-canonical_column (width_in vectors) cells k within
    ∙ ap Some (ap (λ t. canonical_vector t (cells_in cells k)) (width_of_vector rows vectors k p.0 proper p.1)
    ∙ ap (canonical_vector (lane_width_of p.0.coded)) (sym (column_part rows forms c k vectors p.0 is column p.1))
    ∙ p.2))

-- ---- a segment
pub canonical_copy_forms : (rows : ℕ) (forms : List (List VectorForm)) → IsSegment rows forms → map canonical_vectors forms ≡ canonical_forms (widths_in forms) (batch_of rows forms)
canonical_copy_forms rows forms is =
    let batch : Batch = batch_of rows forms in
    let widths : List ℕ = widths_in forms in
    let count : length widths ≡ length forms = length-map forms width_in in
    let made : List (List VectorForm) = map canonical_vectors forms in
    let long : length made ≡ length forms = length-map forms canonical_vectors in
    same_lists made (canonical_forms widths batch) (long ∙ sym (length-canonical_forms widths batch ∙ count))
    (λ c d w.
    let p = mapped_at canonical_vectors forms c (get_or made c d) (slice_get-get_or made c d w) in
    sym p.2
    ∙ canonical_vectors_of_column rows forms c p.0 is p.1
    ∙ ap (λ t. canonical_column t (column_cells batch c)) (sym (get_or-widths_in forms c p.0 p.1))
    ∙ sym (get_or-canonical_forms widths batch c d (omega arith)))

pub canonical_copy_is_a_segment : (rows : ℕ) (forms : List (List VectorForm)) → IsSegment rows forms → IsSegment rows (map canonical_vectors forms)
canonical_copy_is_a_segment rows forms is =
    let long : length (map canonical_vectors forms) ≡ length forms = length-map forms canonical_vectors in
    record {
      some = is.some;
      limit = is.limit;
      some_columns = let l = is.some_columns in omega arith;
      columns_limit = let l = is.columns_limit in omega arith;
      columns = λ c vectors e.
          let p = mapped_at canonical_vectors forms c vectors e in
          subst (λ (x : List VectorForm). IsColumn rows x) p.2 (canonical_vectors_are_a_column rows p.0 (is.columns c p.0 p.1));
    }

pub canonical_copy_rows : (rows : ℕ) (forms : List (List VectorForm)) → IsSegment rows forms → batch_of rows (map canonical_vectors forms) ≡ batch_of rows forms
canonical_copy_rows rows forms is =
    rows_of_same rows (map canonical_vectors forms) forms (canonical_copy_is_a_segment rows forms is) is (length-map forms canonical_vectors)
    (λ c vectors ws e f k v w g h.
    let p = mapped_at canonical_vectors forms c vectors e in
    let own : p.0 ≡ ws = found_once (slice_get forms c) p.0 ws p.1 f in
    let at : slice_get (canonical_vectors p.0) k ≡ Some v = ap (λ (x : List VectorForm). slice_get x k) p.2 ∙ g in
    let q = mapped_at canonical_of p.0 k v at in
    let same : q.0 ≡ w = found_once (slice_get ws k) q.0 w (ap (λ (x : List VectorForm). slice_get x k) (sym own) ∙ q.1) h in
    ap cells_of (sym q.2) ∙ cells_of-canonical_of q.0 ((is.columns c p.0 p.1).each k q.0 q.1) ∙ ap cells_of same)

-- the lane widths stay
width_in-canonical_vectors : (vectors : List VectorForm) → width_in (canonical_vectors vectors) ≡ width_in vectors
width_in-canonical_vectors [] = refl
width_in-canonical_vectors (v ∷ vectors) = lane_width-canonical (lane_width_of v.coded) (cells_of v)

pub widths_in-canonical_copy : (forms : List (List VectorForm)) → widths_in (map canonical_vectors forms) ≡ widths_in forms
widths_in-canonical_copy [] = refl
widths_in-canonical_copy (vectors ∷ forms) =
    ap (λ (t : ℕ). t ∷ widths_in (map canonical_vectors forms)) (width_in-canonical_vectors vectors) ∙ ap (λ (ws : List ℕ). width_in vectors ∷ ws) (widths_in-canonical_copy forms)

-- they are known to be canonical
pub canonical_copy_is_marked : (rows : ℕ) (forms : List (List VectorForm)) → IsSegment rows forms → IsMarked rows (map canonical_vectors forms) true
canonical_copy_is_marked rows forms is =
    record {
      segment = canonical_copy_is_a_segment rows forms is;
      canonical = λ _. canonical_copy_forms rows forms is
          ∙ ap (λ (widths : List ℕ). canonical_forms widths (batch_of rows forms)) (sym (widths_in-canonical_copy forms))
          ∙ ap (canonical_forms (widths_in (map canonical_vectors forms))) (sym (canonical_copy_rows rows forms is));
    }
