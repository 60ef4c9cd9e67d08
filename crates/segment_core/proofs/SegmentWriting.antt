-- The vectors of a segment, as they are written one after the other.
use Rattle.std.proofs.Common.{◌≡◌, ℕ, ◌<◌, List, [], ◌∷◌, length, get_or, take, slice_get, slice_index_or, Some, refl, sym, ap, ◌∙◌, arith}
use Rattle.std.proofs.lemmas.List.{length-take-le, length-map, get_or_default}
use Rattle.std.proofs.lemmas.Option.{slice_get-get_or}
use Rattle.std.proofs.Math.ListN.{get_or-map}
use Rattle.segment_core.specs.Coded.{lane_width_of}
use Rattle.segment_core.specs.CodedVector.{VectorForm}
use Rattle.segment_core.specs.Segment.{IsColumn, IsSegment, rows_in, width_in, widths_in}
use Rattle.segment_core.specs.VectorBytes.{vector}
use Rattle.segment_core.specs.SegmentBytes.{column}

same_width : (rows i : ℕ) (vectors : List VectorForm) (v : VectorForm) → IsColumn rows vectors → slice_get vectors i ≡ Some v → i < length vectors → lane_width_of v.coded ≡ width_in vectors
same_width rows i [] v h found below = absurd (omega arith)
same_width rows i (u ∷ vectors) v h found below = h.one_width i 0 v u found refl

-- a vector of a column is spelled as the column has it
pub spelled_in_column : (rows i : ℕ) (vectors : List VectorForm) (v : VectorForm) → IsColumn rows vectors → i < length vectors → v ≡ get_or vectors i v
    → (vector (lane_width_of v.coded) v.rows).spell v ≡ (vector (width_in vectors) (rows_in rows (length (take i vectors)))).spell (get_or vectors i v)
spelled_in_column rows i vectors v h below is =
    let found : slice_get vectors i ≡ Some v = slice_get-get_or vectors i v below ∙ ap Some (sym is) in
    let place : length (take i vectors) ≡ i = length-take-le i vectors (omega arith) in
    let width : lane_width_of v.coded ≡ width_in vectors = same_width rows i vectors v h found below in
    ap (λ (t : ℕ). (vector t v.rows).spell v) width ∙ ap (λ (n : ℕ). (vector (width_in vectors) n).spell v) (h.cover i v found ∙ ap (rows_in rows) (sym place))
    ∙ ap (vector (width_in vectors) (rows_in rows (length (take i vectors)))).spell is

-- a column of a segment is one of its number of rows
pub column_in : (rows i : ℕ) (forms : List (List VectorForm)) (vectors : List VectorForm) → IsSegment rows forms → i < length forms → vectors ≡ get_or forms i vectors → IsColumn rows vectors
column_in rows i forms vectors h below is = h.columns i vectors (slice_get-get_or forms i vectors below ∙ ap Some (sym is))

-- a column is spelled as all of them have it
pub spelled_in_columns : (rows i : ℕ) (forms : List (List VectorForm)) (vectors : List VectorForm) → i < length forms → vectors ≡ get_or forms i vectors
    → (column (width_in vectors) rows).spell vectors ≡ (column (slice_index_or (widths_in forms) (length (take i forms)) 0) rows).spell (get_or forms i vectors)
spelled_in_columns rows i forms vectors below is =
    let place : length (take i forms) ≡ i = length-take-le i forms (omega arith) in
    let at : get_or (widths_in forms) i (width_in vectors) ≡ width_in vectors = get_or-map width_in forms i vectors ∙ ap width_in (sym is) in
    let zero_default : get_or (widths_in forms) i (width_in vectors) ≡ get_or (widths_in forms) i 0 = get_or_default (widths_in forms) i (width_in vectors) 0 (omega (arith, length-map forms width_in)) in
    let width : width_in vectors ≡ slice_index_or (widths_in forms) (length (take i forms)) 0 = sym at ∙ zero_default ∙ ap (λ (n : ℕ). get_or (widths_in forms) n 0) (sym place) in
    ap (λ (t : ℕ). (column t rows).spell vectors) width ∙ ap (column (slice_index_or (widths_in forms) (length (take i forms)) 0) rows).spell is
