-- What the vectors of a segment say of its rows: each row is read from the vectors that stand at its place.
use Rattle.std.proofs.Common.{◌≡◌, ℕ, ◌<◌, ◌≤◌, List, [], length, get_or, slice_get, Some, refl, sym, ◌∙◌, ap, arith}
use Rattle.std.proofs.lemmas.List.FromFn.{length-map-range_with_len, get_or-map-range_with_len}
use Rattle.std.proofs.lemmas.Option.{slice_get_read, get_or_from_slice_get}
use Rattle.table_model.specs.State.{Cells}
use Rattle.segment_core.specs.CodedVector.{VectorForm}
use Rattle.segment_core.specs.Segment.{SegmentForm, batch_of, row_of, vector_count, vector_at, IsSegment}

pub length-batch_of : (rows : ℕ) (forms : List (List VectorForm)) → length (batch_of rows forms) ≡ rows
unfolding batch_of
length-batch_of rows forms = length-map-range_with_len (row_of forms) 0 rows

-- the row at an ordinal
pub get_or-batch_of : (rows : ℕ) (forms : List (List VectorForm)) (n : ℕ) (d : Cells) → n < rows → get_or (batch_of rows forms) n d ≡ row_of forms n
unfolding batch_of
get_or-batch_of rows forms n d h = get_or-map-range_with_len (row_of forms) 0 rows n n d h (omega arith)

-- a segment as its count of rows and its vectors make it
pub record Shows (rows : ℕ) (forms : List (List VectorForm)) (s : SegmentForm) : Type 0 where
  pub proper : IsSegment rows forms
  pub view : let made : SegmentForm = record { rows = batch_of rows forms; forms = forms } in made ≡ s

pub forms_shown : (rows : ℕ) (forms : List (List VectorForm)) (s : SegmentForm) → Shows rows forms s → forms ≡ s.forms
forms_shown rows forms s h = ap (λ (x : SegmentForm). x.forms) h.view

pub count_shown : (rows : ℕ) (forms : List (List VectorForm)) (s : SegmentForm) → Shows rows forms s → rows ≡ length s.rows
count_shown rows forms s h = sym (length-batch_of rows forms) ∙ ap (λ (x : SegmentForm). length x.rows) h.view

-- a column that stands in a segment has its count of vectors
pub column_length : (rows : ℕ) (forms : List (List VectorForm)) (s : SegmentForm) (c : ℕ) (column : List VectorForm) → Shows rows forms s → c < length s.forms → column ≡ get_or forms c column → length column ≡ vector_count (length s.rows)
column_length rows forms s c column h within read =
    let same : length forms ≡ length s.forms = ap length (forms_shown rows forms s h) in
    (h.proper.columns c column (slice_get_read forms (length forms) c column refl (omega arith) read)).count
    ∙ ap vector_count (count_shown rows forms s h)

-- no column has more than 64 vectors
pub column_limit : (rows : ℕ) (forms : List (List VectorForm)) (s : SegmentForm) → Shows rows forms s → vector_count (length s.rows) ≤ 64
column_limit rows forms s h = let e = count_shown rows forms s h in let l = h.proper.limit in omega arith

-- the vector that stands at a place of a column of a segment
pub vector_found : (rows : ℕ) (forms : List (List VectorForm)) (s : SegmentForm) (c k : ℕ) (column : List VectorForm) (v : VectorForm) → Shows rows forms s → c < length s.forms → column ≡ get_or forms c column → k < length column → v ≡ get_or column k v → vector_at s.forms c k ≡ Some v
vector_found rows forms s c k column v h within read below found =
    let same : forms ≡ s.forms = forms_shown rows forms s h in
    let count : length forms ≡ length s.forms = ap length same in
    let here : get_or s.forms c [] ≡ column = ap (λ f. get_or f c []) (sym same) ∙ get_or_from_slice_get forms c column [] (slice_get_read forms (length forms) c column refl (omega arith) read) in
    ap (λ (vs : List VectorForm). slice_get vs k) here ∙ slice_get_read column (length column) k v refl below found
