-- A segment: the rows of a batch, column by column, each column in coded vectors of up to 1024 rows.
use Rattle.std.specs.Prelude.{◌≡◌, ℕ, ◌<◌, ◌+◌, ◌-◌, ◌*◌, ◌/◌, ◌%◌, ◌≤◌, min, Bool, IsTrue, ℤ, List, [], ◌∷◌, map, take, drop, length, slice_get, slice_index_or, slice_set, Option, Some, None, Result, Ok, Err}
use Rattle.std.specs.List.{range_with_len}
use Rattle.table_model.specs.State.{Cells, Batch}
use Rattle.table_model.specs.Table.{Table, ColumnShape, bits_of, column_limit, row_limit}
use Rattle.table_model.specs.declared.refusal.Refusal.{Refusal}
use Rattle.table_model.specs.declared.refusal.Refusal.TheVariants.{NoSuchVector}
use Rattle.segment_core.specs.Fill.{AreCellsInRange}
use Rattle.segment_core.specs.Coded.{lane_width_of}
use Rattle.segment_core.specs.CodedVector.{VectorForm, vector_cell, cells_of, canonical_vector, canonical_of, recoded_vector, IsVector}
use Rattle.segment_core.specs.declared.coding.Coding.{Coding}

-- a segment: its rows, and the vectors of each column
pub record SegmentForm : Type 0 where
  pub rows : Batch
  pub forms : List (List VectorForm)

-- how many vectors a number of rows take
abbrev pub vector_count : ℕ → ℕ
vector_count rows = (rows + 1023) / 1024

-- how many rows vector k covers, of a number of rows
abbrev pub rows_in : ℕ → ℕ → ℕ
rows_in rows k = min 1024 (rows - 1024 * k)

-- a vector's cell at row n, null where there is no vector
abbrev pub cell_of : Option VectorForm → ℕ → Option ℤ
cell_of None n = None
cell_of (Some v) n = vector_cell v n

-- a column's cell at an ordinal
abbrev pub column_cell : List VectorForm → ℕ → Option ℤ
column_cell vectors ordinal = cell_of (slice_get vectors (ordinal / 1024)) (ordinal % 1024)

-- the row at an ordinal, one cell a column
abbrev pub row_of : List (List VectorForm) → ℕ → Cells
row_of forms ordinal = map (λ vectors. column_cell vectors ordinal) forms

-- the rows that the vectors of all columns represent
unfoldable pub batch_of : ℕ → List (List VectorForm) → Batch
batch_of rows forms = map (row_of forms) (range_with_len 0 rows)

-- a column of a number of rows: vectors of one lane width, all full but perhaps the last
pub record IsColumn (rows : ℕ) (vectors : List VectorForm) : Type 0 where
  pub each : (k : ℕ) (v : VectorForm) → slice_get vectors k ≡ Some v → IsVector v
  pub count : length vectors ≡ vector_count rows
  pub cover : (k : ℕ) (v : VectorForm) → slice_get vectors k ≡ Some v → v.rows ≡ rows_in rows k
  pub one_width : (j k : ℕ) (u v : VectorForm) → slice_get vectors j ≡ Some u → slice_get vectors k ≡ Some v → lane_width_of u.coded ≡ lane_width_of v.coded

-- the vectors of a segment: 1 to row_limit rows in 1 to column_limit columns
pub record IsSegment (rows : ℕ) (forms : List (List VectorForm)) : Type 0 where
  pub some : 1 ≤ rows
  pub limit : rows ≤ row_limit
  pub some_columns : 1 ≤ length forms
  pub columns_limit : length forms ≤ column_limit
  pub columns : (c : ℕ) (vectors : List VectorForm) → slice_get forms c ≡ Some vectors → IsColumn rows vectors

-- a column's cells in rows
abbrev pub column_cells : Batch → ℕ → List (Option ℤ)
column_cells rows c = map (λ row. slice_index_or row c None) rows

-- each of the rows has a cell in the column, null or in the range of t bits, signed
pub record HasColumn (t : ℕ) (rows : Batch) (c : ℕ) : Type 0 where
  pub there : (n : ℕ) → n < length rows → c < length (slice_index_or rows n [])
  pub fit : AreCellsInRange t (column_cells rows c)

-- the cells of a column's vector k
abbrev pub cells_in : List (Option ℤ) → ℕ → List (Option ℤ)
cells_in cells k = take 1024 (drop (1024 * k) cells)

-- the canonical vectors of a column's cells
unfoldable pub canonical_column : ℕ → List (Option ℤ) → List VectorForm
canonical_column t cells = map (λ k. canonical_vector t (cells_in cells k)) (range_with_len 0 (vector_count (length cells)))

-- the canonical vectors of rows whose columns have these lane widths
unfoldable pub canonical_forms : List ℕ → Batch → List (List VectorForm)
canonical_forms widths rows = map (λ c. canonical_column (slice_index_or widths c 0) (column_cells rows c)) (range_with_len 0 (length widths))

-- each vector is the canonical one of its cells
abbrev pub AreCanonical : List VectorForm → Type 0
AreCanonical vectors = (k : ℕ) (v : VectorForm) → slice_get vectors k ≡ Some v → v ≡ canonical_of v

-- the canonical vectors of a column's own cells
abbrev pub canonical_vectors : List VectorForm → List VectorForm
canonical_vectors vectors = map canonical_of vectors

-- each vector has the same cells as the other column's at its place
abbrev pub HaveSameCells : List VectorForm → List VectorForm → Type 0
HaveSameCells vectors others = (k : ℕ) (v w : VectorForm) → slice_get vectors k ≡ Some v → slice_get others k ≡ Some w → cells_of v ≡ cells_of w

-- each vector has its part of a column's cells
abbrev pub HasCellsOf : List VectorForm → List (Option ℤ) → Type 0
HasCellsOf vectors cells = (k : ℕ) (v : VectorForm) → slice_get vectors k ≡ Some v → cells_of v ≡ cells_in cells k

-- the lane widths of a table's columns
abbrev pub widths_of : Table → List ℕ
widths_of table = map (λ (column : ColumnShape). bits_of column.column_type) table.columns

-- the lane width of a column's vectors
abbrev pub width_in : List VectorForm → ℕ
width_in [] = 0
width_in (v ∷ vectors) = lane_width_of v.coded

-- the lane widths of the columns of a segment
abbrev pub widths_in : List (List VectorForm) → List ℕ
widths_in forms = map width_in forms

-- the vectors of a segment, of which it may be known that they are the canonical ones of its rows
pub record IsMarked (rows : ℕ) (forms : List (List VectorForm)) (known_canonical : Bool) : Type 0 where
  pub segment : IsSegment rows forms
  pub canonical : IsTrue known_canonical → forms ≡ canonical_forms (widths_in forms) (batch_of rows forms)

-- a row's cell in a column, null where there is none
abbrev pub cell_at : Batch → ℕ → ℕ → Option ℤ
cell_at rows ordinal column = slice_index_or (slice_index_or rows ordinal []) column None

-- the canonical segment of a table's rows
abbrev pub canonical_segment : Table → Batch → SegmentForm
canonical_segment table rows = record { rows = rows; forms = canonical_forms (widths_of table) rows }

-- the canonical segment of a segment's own rows, at its own lane widths
abbrev pub canonical_again : SegmentForm → SegmentForm
canonical_again s = record s { forms = canonical_forms (widths_in s.forms) s.rows }

-- the vector of a column at a place, if there is one
abbrev pub vector_at : List (List VectorForm) → ℕ → ℕ → Option VectorForm
vector_at forms c k = slice_get (slice_index_or forms c []) k

-- the vectors with one of them put in place of another
abbrev pub with_vector : List (List VectorForm) → ℕ → ℕ → VectorForm → List (List VectorForm)
with_vector forms c k v = slice_set forms c (slice_set (slice_index_or forms c []) k v)

-- a vector that was looked for in another coding, or the refusal where there is none
abbrev pub recoded_found : Coding → Option VectorForm → Result VectorForm Refusal
recoded_found coding None = Err NoSuchVector
recoded_found coding (Some v) = Ok (recoded_vector coding v)

-- a segment with the vector put in place of another, or the refusal
abbrev pub put_in : SegmentForm → ℕ → ℕ → Result VectorForm Refusal → Result (Unit {0} × SegmentForm) Refusal
put_in s c k (Ok v) = Ok (tt, record s { forms = with_vector s.forms c k v })
put_in s c k (Err refusal) = Err refusal

-- a segment with another coding of a vector and the same rows, or the refusal where there is no such vector
unfoldable pub recoded : SegmentForm → ℕ → ℕ → Coding → Result (Unit {0} × SegmentForm) Refusal
recoded s c k coding = put_in s c k (recoded_found coding (vector_at s.forms c k))

-- segments with the same vectors have the same rows
abbrev pub FormsTellRows : Type 0
FormsTellRows = (m n : ℕ) (forms : List (List VectorForm)) → IsSegment m forms → IsSegment n forms → batch_of m forms ≡ batch_of n forms
