-- The vectors and columns of a segment, as they are read one after the other.
use Rattle.std.proofs.Common.{◌≡◌, ℕ, zero, suc, ◌+◌, ◌<◌, List, [], ◌∷◌, ◌++◌, length, Some, ◌⊎◌, inl, inr, refl, sym, ap, ◌∙◌, arith, slice_get, slice_index_or, get_or, map, take, subst}
use Rattle.std.proofs.lemmas.List.{length-map, get_or_default, map_push}
use Rattle.std.proofs.lemmas.Grind.{take_at_read}
use Rattle.std.proofs.Math.ListN.{get_or-map}
use Rattle.table_model.specs.Table.{bits_of, ColumnShape}
use Rattle.segment_core.specs.Coded.{lane_width_of}
use Rattle.segment_core.specs.CodedVector.{VectorForm, IsVector}
use Rattle.segment_core.specs.Segment.{IsColumn, rows_in, width_in, widths_in}

-- what stands at a place of a list with one more item
pub last_or : {X : Type 0} (front : List X) (x y : X) (k : ℕ) → slice_get (front ++ x ∷ []) k ≡ Some y → (slice_get front k ≡ Some y) ⊎ ((k ≡ length front) × (x ≡ y))
last_or [] x y zero e = inr (refl, cc)
last_or [] x y (suc k) e = absurd cc
last_or (z ∷ front) x y zero e = inl e
last_or (z ∷ front) x y (suc k) e = shifted z front x y k (last_or front x y k e)
  where
    shifted : {X : Type 0} (z : X) (front : List X) (x y : X) (k : ℕ) → (slice_get front k ≡ Some y) ⊎ ((k ≡ length front) × (x ≡ y)) → (slice_get front k ≡ Some y) ⊎ ((suc k ≡ suc (length front)) × (x ≡ y))
    shifted z front x y k (inl e) = inl e
    shifted z front x y k (inr (at, same)) = inr (ap suc at, same)

-- vectors from the first rows of a column on, of t bits
pub record AreVectors (t rows : ℕ) (vectors : List VectorForm) : Type 0 where
  pub cover : (k : ℕ) (v : VectorForm) → slice_get vectors k ≡ Some v → v.rows ≡ rows_in rows k
  pub wide : (k : ℕ) (v : VectorForm) → slice_get vectors k ≡ Some v → lane_width_of v.coded ≡ t
  pub forms : (k : ℕ) (v : VectorForm) → slice_get vectors k ≡ Some v → IsVector v

pub more_vectors : (t rows : ℕ) (vectors : List VectorForm) (v : VectorForm) → AreVectors t rows vectors → v.rows ≡ rows_in rows (length vectors) → lane_width_of v.coded ≡ t → IsVector v → AreVectors t rows (vectors ++ v ∷ [])
more_vectors t rows vectors v h covers wide form = record {
  cover = λ k w e. cover_at k w (last_or vectors v w k e);
  wide = λ k w e. wide_at k w (last_or vectors v w k e);
  forms = λ k w e. form_at k w (last_or vectors v w k e);
}
  where
    form_at : (k : ℕ) (w : VectorForm) → (slice_get vectors k ≡ Some w) ⊎ ((k ≡ length vectors) × (v ≡ w)) → IsVector w
    form_at k w (inl e) = h.forms k w e
    form_at k w (inr (at, same)) = let P : VectorForm → Type 0 = λ x. IsVector x in subst P same form

    cover_at : (k : ℕ) (w : VectorForm) → (slice_get vectors k ≡ Some w) ⊎ ((k ≡ length vectors) × (v ≡ w)) → w.rows ≡ rows_in rows k
    cover_at k w (inl e) = h.cover k w e
    cover_at k w (inr (at, same)) = ap (λ (u : VectorForm). u.rows) (sym same) ∙ covers ∙ ap (rows_in rows) (sym at)

    wide_at : (k : ℕ) (w : VectorForm) → (slice_get vectors k ≡ Some w) ⊎ ((k ≡ length vectors) × (v ≡ w)) → lane_width_of w.coded ≡ t
    wide_at k w (inl e) = h.wide k w e
    wide_at k w (inr (at, same)) = ap (λ (u : VectorForm). lane_width_of u.coded) (sym same) ∙ wide

-- the columns of so many rows, from the first on
pub record AreColumns (rows : ℕ) (forms : List (List VectorForm)) : Type 0 where
  pub each : (c : ℕ) (vectors : List VectorForm) → slice_get forms c ≡ Some vectors → IsColumn rows vectors

pub more_columns : (rows : ℕ) (forms : List (List VectorForm)) (vectors : List VectorForm) → AreColumns rows forms → IsColumn rows vectors → AreColumns rows (forms ++ vectors ∷ [])
more_columns rows forms vectors h column = record { each = λ c found e. each_at c found (last_or forms vectors found c e) }
  where
    each_at : (c : ℕ) (found : List VectorForm) → (slice_get forms c ≡ Some found) ⊎ ((c ≡ length forms) × (vectors ≡ found)) → IsColumn rows found
    each_at c found (inl e) = h.each c found e
    each_at c found (inr (at, same)) = let P : List VectorForm → Type 0 = λ x. IsColumn rows x in subst P same column

-- a column's lane width among those of all
pub width_at : (shapes : List ColumnShape) (k n : ℕ) (shape : ColumnShape) → k < length shapes → n ≡ k → shape ≡ get_or shapes k shape
    → bits_of shape.column_type ≡ slice_index_or (map (λ (s : ColumnShape). bits_of s.column_type) shapes) n 0
width_at shapes k n shape below same is =
    let width : ColumnShape → ℕ = λ s. bits_of s.column_type in
    let at : get_or (map width shapes) k (width shape) ≡ width shape = get_or-map width shapes k shape ∙ ap width (sym is) in
    let zero_default : get_or (map width shapes) k (width shape) ≡ get_or (map width shapes) k 0 = get_or_default (map width shapes) k (width shape) 0 (omega (arith, length-map shapes width)) in
    sym at ∙ zero_default ∙ ap (λ (j : ℕ). get_or (map width shapes) j 0) (sym same)

-- the lane width of vectors of t bits
pub width_of_vectors : (t rows : ℕ) (vectors : List VectorForm) → 0 < length vectors → AreVectors t rows vectors → width_in vectors ≡ t
width_of_vectors t rows [] some h = absurd (omega arith)
width_of_vectors t rows (v ∷ vectors) some h = h.wide 0 v refl

-- the lane widths with one more column
pub more_widths : (forms : List (List VectorForm)) (vectors : List VectorForm) (widths : List ℕ) (k t : ℕ) → widths_in forms ≡ take k widths → width_in vectors ≡ t → k < length widths → t ≡ get_or widths k 0
    → widths_in (forms ++ vectors ∷ []) ≡ take (k + 1) widths
more_widths forms vectors widths k t so_far width below is =
    map_push width_in forms vectors ∙ ap (λ (ws : List ℕ). ws ++ width_in vectors ∷ []) so_far ∙ ap (λ (w : ℕ). take k widths ++ w ∷ []) (width ∙ is) ∙ sym (take_at_read widths k 0 below).1
