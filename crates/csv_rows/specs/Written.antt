-- The text of rows as comma-separated values.
use Rattle.std.specs.Prelude.{◌≡◌, ℕ, List, [], ◌++◌, map, slice_index_or, codes, Option, Some, None, Result, Ok, Err, ℤ, true}
use Rattle.std.specs.Fmt.{decimal, signed_decimal}
use Rattle.std.specs.List.{flat_map}
use Rattle.std.specs.Io.KnownBytes.{Appends}
use Rattle.table_model.specs.Answer.{line_of}
use Rattle.table_model.specs.Counted.{one_more}
use Rattle.table_model.specs.Faults.{AppendsFront}
use Rattle.table_model.specs.Name.{name_text}
use Rattle.table_model.specs.State.{Cells, Batch}
use Rattle.table_model.specs.Table.{Table, ColumnShape, IsTable, AreRows}
use Rattle.table_model.specs.declared.names.RowName.{RowName}
use Rattle.table_model.specs.declared.refusal.Refusal.{Refusal}
use Rattle.table_model.specs.declared.refusal.Refusal.TheVariants.{Memory, WriteFault}
use Rattle.csv_rows.specs.CsvText.{csv_rows}

-- a cell as it is written: a null is nothing
abbrev pub cell_text : Option ℤ → List ℕ
cell_text None = []
cell_text (Some z) = signed_decimal z

-- a column's name
abbrev pub column_name : ColumnShape → List ℕ
column_name column = column.name

-- the line of the columns' names
abbrev pub header_line : List ColumnShape → List ℕ
header_line columns = line_of (map column_name columns)

-- the name of the column at a place
abbrev pub name_at : List ColumnShape → ℕ → List ℕ
name_at columns place = slice_index_or (map column_name columns) place []

-- the line of the names of columns by their places
abbrev pub header_line_at : List ColumnShape → List ℕ → List ℕ
header_line_at columns places = line_of (map (name_at columns) places)

-- the line of a row
abbrev pub row_line : Cells → List ℕ
row_line cells = line_of (map cell_text cells)

-- the line of the columns' names, with those of the columns of a row's name before them
abbrev pub named_header_line : List ColumnShape → List ℕ
named_header_line columns = codes "BATCH,ORDINAL," ++ header_line columns

-- the same of columns by their places
abbrev pub named_header_line_at : List ColumnShape → List ℕ → List ℕ
named_header_line_at columns places = codes "BATCH,ORDINAL," ++ header_line_at columns places

-- a row's name, with a comma behind each of its parts
abbrev pub row_name_text : RowName → List ℕ
row_name_text name = name_text name.batch ++ (codes "," ++ (decimal name.ordinal ++ codes ","))

-- the line of a row, with its name before it
abbrev pub named_row_line : RowName → Cells → List ℕ
named_row_line name cells = row_name_text name ++ row_line cells

-- the text of a table's rows: the header, and a line for each row
abbrev pub csv_text : List ColumnShape → Batch → List ℕ
csv_text columns rows = header_line columns ++ flat_map row_line rows

-- A call that writes a text: all of it was written; or memory ran out and nothing was; or a write failed, and a front of the text was
-- written. The count of failures rose in this last case alone.
abbrev pub WritesText : Result (Unit {0}) Refusal → Option (List ℕ) → Option (List ℕ) → ℕ → ℕ → List ℕ → Type 0
WritesText (Ok done) old new before after text = Appends old new text × (after ≡ before)
WritesText (Err Memory) old new before after text = Appends old new [] × (after ≡ before)
WritesText (Err WriteFault) old new before after text = AppendsFront old new text × (after ≡ one_more before)
WritesText (Err other) old new before after text = ⊥

-- what was written of a table's rows reads as these rows
abbrev pub WrittenRowsAreRead : Type 0
WrittenRowsAreRead = (table : Table) → IsTable table → (rows : Batch) → AreRows table.columns rows → csv_rows table true (csv_text table.columns rows) ≡ Ok rows
