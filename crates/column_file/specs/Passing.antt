-- How the columns of a batch are passed over: what comes after them, without their values. Of each vector the null flag, the coding, the
-- width and the count are read, which tell how many bytes the rest has.
use Rattle.std.specs.Prelude.{◌≡◌, ℕ, zero, suc, ◌+◌, ◌*◌, ◌/◌, nat_le, nat_lt, cond, ◌==◌, List, length, drop, slice_index_or, Result, Ok, Err}
use Rattle.table_model.specs.Reading.{◌>>=◌}
use Rattle.table_model.specs.Table.{Table}
use Rattle.table_model.specs.declared.refusal.Refusal.{Refusal}
use Rattle.table_model.specs.declared.refusal.Refusal.TheVariants.{Truncated, BadMask, BadWidth, BadCount}
use Rattle.segment_core.specs.declared.coding.Coding.{Coding}
use Rattle.segment_core.specs.declared.coding.Coding.TheVariants.{For as ByFrame, Delta as ByDeltas, Runs as ByRuns, Dict as ByDictionary}
use Rattle.segment_core.specs.CodedVector.{VectorForm}
use Rattle.segment_core.specs.Format.{Format, checked, before, number}
use Rattle.segment_core.specs.Segment.{vector_count, widths_of}
use Rattle.segment_core.specs.SegmentBytes.{batch_columns}
use Rattle.segment_core.specs.VectorBytes.{coding, is_width, is_count}

-- what comes after a number of bytes, whatever they are
abbrev pub over : ℕ → ℕ → List ℕ → Result (List ℕ) Refusal
over count total bytes = cond (nat_lt (length bytes) count) (Err (Truncated total)) (Ok (drop count bytes))

-- what comes after a number of things, counted from a place on
unfoldable pub over_each : (ℕ → ℕ → List ℕ → Result (List ℕ) Refusal) → ℕ → ℕ → ℕ → List ℕ → Result (List ℕ) Refusal
over_each thing zero at total bytes = Ok bytes
over_each thing (suc n) at total bytes = thing at total bytes >>= λ rest. over_each thing n (at + 1) total rest

-- whether a vector has a null mask: 1 if it has
unfoldable pub null_flag : Format ℕ
null_flag = checked (number 1) (λ flag. nat_le flag 1) BadMask

-- what comes after a null flag, and the null mask if it is 1
unfoldable pub over_nulls : ℕ → List ℕ → Result (List ℕ) Refusal
over_nulls total bytes = null_flag.read total bytes >>= λ flag. over (cond (flag.0 == 1) 128 0) total flag.1

-- a coding, its width in a byte, and its count in two
unfoldable pub form : ℕ → Format (Coding × (ℕ × ℕ))
form t = before coding (λ c. before (checked (number 1) (is_width t c) BadWidth) (λ _. checked (number 2) (is_count c) BadCount))

-- how many bytes a payload has, at lanes of t bits, by its coding, its width and its count
abbrev pub payload_bytes : ℕ → Coding → ℕ → ℕ → ℕ
payload_bytes t ByFrame width count = t / 8 + 128 * width
payload_bytes t ByDeltas width count = t / 8 + (1024 / t * (t / 8) + 128 * width)
payload_bytes t ByRuns width count = 128 + count * (t / 8)
payload_bytes t ByDictionary width count = count * (t / 8) + 128 * width

-- what comes after a vector
unfoldable pub over_vector : ℕ → ℕ → List ℕ → Result (List ℕ) Refusal
over_vector t total bytes =
    over_nulls total bytes >>= λ rest. (form t).read total rest >>= λ f. over (payload_bytes t f.0.0 f.0.1.0 f.0.1.1) total f.1

-- what comes after a column of a number of rows
unfoldable pub over_column : ℕ → ℕ → ℕ → List ℕ → Result (List ℕ) Refusal
over_column t rows total bytes = over_each (λ _. over_vector t) (vector_count rows) 0 total bytes

-- what comes after columns of these lane widths
unfoldable pub over_columns : List ℕ → ℕ → ℕ → List ℕ → Result (List ℕ) Refusal
over_columns widths rows total bytes = over_each (λ at. over_column (slice_index_or widths at 0) rows) (length widths) 0 total bytes

-- the columns of a batch that are read are passed over to the same place
abbrev pub PassedAsRead : Type 0
PassedAsRead =
    (table : Table) (rows total : ℕ) (bytes rest : List ℕ) (forms : List (List VectorForm)) →
    (batch_columns table rows).read total bytes ≡ Ok (forms, rest) → over_columns (widths_of table) rows total bytes ≡ Ok rest
