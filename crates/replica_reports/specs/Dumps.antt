-- The live rows of a replica as comma-separated values.
use Rattle.std.specs.Prelude.{◌≡◌, ℕ, Bool, true, false, List, ◌++◌, map, Option, Result, Ok, Err}
use Rattle.std.specs.List.{flat_map}
use Rattle.std.specs.Io.KnownBytes.{Appends}
use Rattle.table_model.specs.Counted.{one_more}
use Rattle.table_model.specs.Faults.{AppendsFront}
use Rattle.table_model.specs.Group.{cell}
use Rattle.table_model.specs.State.{State, Batch, Cells, live_rows}
use Rattle.table_model.specs.Table.{Table}
use Rattle.table_model.specs.declared.names.RowName.{RowName}
use Rattle.table_model.specs.declared.refusal.Refusal.{Refusal}
use Rattle.table_model.specs.declared.refusal.Refusal.TheVariants.{Memory, WriteFault}
use Rattle.replica_store.specs.Replica.{Replica}
use Rattle.csv_rows.specs.Written.{header_line, header_line_at, row_line, named_header_line, named_header_line_at, named_row_line}
use Rattle.live_columns.specs.Chosen.{rows_where}
use Rattle.live_columns.specs.Choices.{ChoiceForm}

-- the cells of rows, in their order, without their names
abbrev pub cells_of : List (RowName × Cells) → Batch
cells_of rows = map (λ (row : RowName × Cells). row.1) rows

-- the heading, with the columns of a row's name or without
abbrev pub heading : Bool → Table → List ℕ
heading true table = named_header_line table.columns
heading false table = header_line table.columns

-- the line of a row, with its name or without
abbrev pub row_text : Bool → RowName × Cells → List ℕ
row_text true row = named_row_line row.0 row.1
row_text false row = row_line row.1

-- dump: the heading, and a line for each row that isn't deleted, in order of row name
abbrev pub dumping : Bool → Replica → List ℕ
dumping has_names r = heading has_names r.schema ++ flat_map (row_text has_names) (live_rows r.state)

-- the heading of columns by their places
abbrev pub heading_at : Bool → Table → List ℕ → List ℕ
heading_at true table places = named_header_line_at table.columns places
heading_at false table places = header_line_at table.columns places

-- the cells of a row in columns by their places
abbrev pub cells_at : List ℕ → Cells → Cells
cells_at places row = map (cell row) places

-- the same of a row with its name
abbrev pub in_columns : List ℕ → RowName × Cells → RowName × Cells
in_columns places row = (row.0, cells_at places row.1)

-- the rows that are chosen: the live rows at which the condition is true, in order of row name, with their cells in the columns
abbrev pub dumped_rows : ChoiceForm → Table → State → List (RowName × Cells)
dumped_rows choice table s = map (in_columns choice.places) (rows_where table choice.condition s)

-- dump of a choice: the heading of its columns, and a line for each of its rows
abbrev pub dumping_where : Bool → ChoiceForm → Replica → List ℕ
dumping_where has_names choice r = heading_at has_names r.schema choice.places ++ flat_map (row_text has_names) (dumped_rows choice r.schema r.state)

-- A call that writes lines: all were written; or memory ran out or a write failed after a front. The count of failures rose with a failed
-- write alone.
abbrev pub WritesLines : Result (Unit {0}) Refusal → Option (List ℕ) → Option (List ℕ) → ℕ → ℕ → List ℕ → Type 0
WritesLines (Ok done) old new before after text = Appends old new text × (after ≡ before)
WritesLines (Err Memory) old new before after text = AppendsFront old new text × (after ≡ before)
WritesLines (Err WriteFault) old new before after text = AppendsFront old new text × (after ≡ one_more before)
WritesLines (Err other) old new before after text = ⊥
