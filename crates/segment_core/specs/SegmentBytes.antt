-- The columns of a batch in bytes: for each column, each of its vectors.
use Rattle.std.specs.Prelude.{◌≡◌, ℕ, IsTrue, List, length, slice_index_or, Result, Ok}
use Rattle.table_model.specs.Table.{Table}
use Rattle.table_model.specs.declared.refusal.Refusal.{Refusal}
use Rattle.segment_core.specs.CodedVector.{VectorForm}
use Rattle.segment_core.specs.Segment.{SegmentForm, vector_count, rows_in, widths_of, widths_in, IsSegment}
use Rattle.segment_core.specs.Format.{Format, IsLawful, all}
use Rattle.segment_core.specs.VectorBytes.{vector}

-- the vectors of a column of a number of rows at lanes of t bits
unfoldable pub column : ℕ → ℕ → Format (List VectorForm)
column t rows = all (vector_count rows) (λ front. vector t (rows_in rows (length front)))

-- the columns of a number of rows at these lane widths
unfoldable pub columns : List ℕ → ℕ → Format (List (List VectorForm))
columns widths rows = all (length widths) (λ front. column (slice_index_or widths (length front) 0) rows)

-- the columns of a batch of a number of rows of a table
abbrev pub batch_columns : Table → ℕ → Format (List (List VectorForm))
batch_columns table rows = columns (widths_of table) rows

-- columns, and what comes after them
abbrev pub columns_then : List (List VectorForm) → List ℕ → Result (List (List VectorForm) × List ℕ) Refusal
columns_then forms rest = Ok (forms, rest)

-- the bytes of a segment's columns
unfoldable pub segment_bytes : SegmentForm → List ℕ
segment_bytes s = (columns (widths_in s.forms) (length s.rows)).spell s.forms

-- what is read of a batch's columns is spelled so and valid, and what is valid and spelled so is read, whatever comes after it
abbrev pub ColumnsComeBack : Type 0
ColumnsComeBack = (table : Table) (rows : ℕ) → IsLawful (batch_columns table rows)

-- valid columns with the same bytes are the same
abbrev pub SameBytesSameColumns : Type 0
SameBytesSameColumns =
    (table : Table) (rows : ℕ) (forms others : List (List VectorForm)) → IsTrue ((batch_columns table rows).valid forms) → IsTrue ((batch_columns table rows).valid others) → (batch_columns table rows).spell forms ≡ (batch_columns table rows).spell others → forms ≡ others

-- a segment's columns have bytes as those of a table's batch, which read back
abbrev pub HasBytesIn : Table → SegmentForm → Type 0
HasBytesIn table s = IsTrue ((batch_columns table (length s.rows)).valid s.forms)

-- the columns of each segment have bytes at its own lane widths
abbrev pub SegmentsHaveBytes : Type 0
SegmentsHaveBytes =
    (rows : ℕ) (forms : List (List VectorForm)) → IsSegment rows forms → IsTrue ((columns (widths_in forms) rows).valid forms)
