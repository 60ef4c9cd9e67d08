-- Columns that a caller gives, as rows of a table: the mirror of the columns that lanes_columns gives.
use Rattle.std.specs.Prelude.{◌≡◌, ◌⊎◌, ℕ, ◌+◌, ◌*◌, ◌-◌, ◌/◌, ◌%◌, ◌<◌, ◌≤◌, min, Bool, ◌&&◌, ◌||◌, ◌==◌, cond, nat_lt, IsTrue, List, map, take, drop, length, slice_index, slice_index_or, Option, Some, None, Result, Ok, Err, ℤ, pos}
use Rattle.std.specs.Int.{bit_at}
use Rattle.std.specs.List.{range_with_len}
use Rattle.table_model.specs.Reading.{◌>>=◌}
use Rattle.table_model.specs.State.{Cells, Batch}
use Rattle.table_model.specs.Table.{Table as Schema, column_limit, first_fault, or_else, row_limit}
use Rattle.table_model.specs.declared.names.BatchName.{BatchName}
use Rattle.table_model.specs.declared.refusal.Refusal.{Refusal}
use Rattle.table_model.specs.declared.refusal.Refusal.TheVariants.{Full, Memory, OutOfType, WrongArity}
use Rattle.segment_core.specs.Arrays.{ArrayForm}
use Rattle.live_columns.specs.Columns.{stride_of}
use Rattle.replica_store.specs.Replica.{Replica, batch_limit, unless_fault}
use Rattle.replica_changes.specs.CommandForms.{Import}
use Rattle.replica_changes.specs.Loads.{LoadForm, added_batch}
use Rattle.lanes_c.specs.TableChanges.{with_command}

-- columns that are given: how many rows and columns, their numbers and their validity bits
pub record InputForm : Type 0 where
  pub rows : ℕ
  pub columns : ℕ
  pub values : List ℤ
  pub valid : List ℕ

-- ---- cells and rows

-- whether a cell is a value: bit row % 8 of byte row / 8 of its column is 1; without bits each is
abbrev pub is_value : InputForm → ℕ → ℕ → Bool
is_value input column row = length input.valid == 0 || bit_at (slice_index input.valid (column * stride_of input.rows + row / 8)) (row % 8) == 1

-- a cell: its number if it is a value
abbrev pub input_cell : InputForm → ℕ → ℕ → Option ℤ
input_cell input column row = cond (is_value input column row) (Some (slice_index_or input.values (column * input.rows + row) (pos 0))) None

-- the cells of a row, from the left
unfoldable pub input_row : InputForm → ℕ → Cells
input_row input row = map (λ column. input_cell input column row) (range_with_len 0 input.columns)

-- a number of rows from one on
abbrev pub input_rows : InputForm → ℕ → ℕ → Batch
input_rows input first count = map (input_row input) (range_with_len first count)

-- all rows
abbrev pub all_rows : InputForm → Batch
all_rows input = input_rows input 0 input.rows

-- ---- columns as arrays

-- the bits of a column from a row on, of which 8 have a byte, to the column's last one
abbrev pub column_bits : InputForm → ℕ → ℕ → List ℕ
column_bits input column first =
    let at : ℕ = column * stride_of input.rows + first / 8 in
    take ((column + 1) * stride_of input.rows - at) (drop at input.valid)

-- the cells of a column from a row on, as many as there is a count
abbrev pub column_array : InputForm → ℕ → ℕ → ℕ → ArrayForm
column_array input first count column =
    let at : ℕ = column * input.rows + first in
    record { values = take (at + count - at) (drop at input.values); valid = column_bits input column first }

-- those of all columns
abbrev pub input_arrays : InputForm → ℕ → ℕ → List ArrayForm
input_arrays input first count = map (column_array input first count) (range_with_len 0 input.columns)

-- ---- how many there are

-- whether there are as many numbers as cells, and a bit for each cell or none
abbrev pub are_whole : InputForm → Bool
are_whole input = length input.values == input.columns * input.rows && (length input.valid == 0 || length input.valid == input.columns * stride_of input.rows)

-- why there are too many rows for a load, or not as many numbers or bits as the cells take
abbrev pub count_fault : InputForm → Option Refusal
count_fault input = cond (nat_lt (batch_limit * row_limit) input.rows) (Some Full) (cond (are_whole input) None (Some (WrongArity 0)))

-- columns that have a cell at each row, and not too many
pub record AreWhole (input : InputForm) : Type 0 where
  pub columns : input.columns ≤ column_limit
  pub rows : input.rows ≤ batch_limit * row_limit
  pub whole : IsTrue (are_whole input)

-- ---- the load

-- the rows of a batch: 65,536 of them, and in the last one those that are left
abbrev pub input_batch : InputForm → ℕ → Batch
input_batch input index = input_rows input (index * row_limit) (min row_limit (input.rows - index * row_limit))

-- the first batches
abbrev pub input_batches : InputForm → ℕ → List Batch
input_batches input count = map (input_batch input) (range_with_len 0 count)

-- how many batches the rows make
abbrev pub batch_count : InputForm → ℕ
batch_count input = (input.rows + 65535) / row_limit

-- the load of all rows
abbrev pub input_load : Schema → InputForm → LoadForm
input_load table input = record { schema = table; batches = input_batches input (batch_count input) }

-- the first fault of columns: of their counts; else, row by row, from the left a cell outside its column's type
abbrev pub columns_fault : Schema → InputForm → Option Refusal
columns_fault table input = or_else (count_fault input) (first_fault table.columns 0 (all_rows input))

-- the load of columns, or their first fault
abbrev pub load_of_columns : Schema → InputForm → Result LoadForm Refusal
load_of_columns table input = unless_fault (columns_fault table input) (Ok (input_load table input))

-- these columns as columns of a table
abbrev pub input_of : Schema → ℕ → List ℤ → List ℕ → InputForm
input_of table rows values valid = record { rows = rows; columns = length table.columns; values = values; valid = valid }

-- lanes_table_import_columns: the replica with the rows of columns
abbrev pub with_columns : ℕ → List ℤ → List ℕ → Option BatchName → List ℕ → Replica → Result Replica Refusal
with_columns rows values valid first words r = load_of_columns r.schema (input_of r.schema rows values valid) >>= λ load. with_command (Import load first words) r

-- ---- the refusal of a batch

-- the refusal of a row that comes a number of rows later
abbrev pub later : ℕ → Refusal → Refusal
later rows (OutOfType row column) = OutOfType (row + rows) column
later rows (WrongArity row) = WrongArity (row + rows)
later rows other = other

-- the row of a refusal is one of the first ones
abbrev pub RowIsBelow : ℕ → Refusal → Type 0
RowIsBelow rows (OutOfType row column) = row < rows
RowIsBelow rows (WrongArity row) = row < rows
RowIsBelow rows other = Unit {0}

-- a batch of columns was not added to a load: memory ran out, or the load refused it
abbrev pub IsNotAdded : InputForm → ℕ → LoadForm → Refusal → Type 0
IsNotAdded input index load e = (e ≡ Memory) ⊎ ((refusal : Refusal) × (added_batch load (input_batch input index) ≡ Err refusal) × (e ≡ later (index * row_limit) refusal))
