-- A dump of all columns is that of the rows as they are; and a column of a dump's rows is the column that was chosen.
use Rattle.std.specs.Prelude.{◌≡◌, ℕ, ◌<◌, Bool, true, false, filter, List, [], ◌∷◌, ◌++◌, codes, map, length, Option, None, ℤ, Result, Ok}
use Rattle.std.proofs.Common.{refl, sym, ap, ◌∙◌, get_or}
use Rattle.std.proofs.lemmas.List.{length-map, get_or-map}
use Rattle.std.proofs.lemmas.List.FromFn.{fill_by_all}
use Rattle.std.specs.FinMap as finite
use Rattle.std.specs.List.{flat_map, range_with_len}
use Rattle.table_model.specs.Answer.{line_of}
use Rattle.table_model.specs.Group.{cell}
use Rattle.table_model.specs.State.{State, Cells, live_rows}
use Rattle.table_model.specs.Table.{Table, ColumnShape, AreRows}
use Rattle.table_model.specs.declared.names.RowName.{RowName}
use Rattle.table_model.proofs.Batches.{row_length}
use Rattle.replica_store.specs.Replica.{Replica, AllFit}
use Rattle.csv_rows.specs.Written.{column_name, name_at}
use Rattle.live_columns.specs.Chosen.{cells_in, columns_in, rows_where}
use Rattle.live_columns.specs.Choices.{ChoiceForm}
use Rattle.live_columns.specs.declared.choice.Unchosen.{Unchosen}
use Rattle.replica_reports.specs.DumpColumnLaws.{DumpColumnLaws, whole_choice}
use Rattle.replica_reports.specs.Dumps.{cells_at, cells_of, dumped_rows, dumping, dumping_where, heading, heading_at, in_columns, row_text}
use Rattle.replica_reports.proofs.LiveRows.{live_fit}

-- ---- all columns

all_names : (columns : List ColumnShape) → map (name_at columns) (range_with_len 0 (length columns)) ≡ map column_name columns
all_names columns = sym (fill_by_all (name_at columns) (map column_name columns) (length columns) [] (length-map {B = List ℕ} columns column_name) (λ k l. refl))

heading_whole : (has_names : Bool) (table : Table) → heading_at has_names table (range_with_len 0 (length table.columns)) ≡ heading has_names table
heading_whole true table = ap (λ (names : List (List ℕ)). codes "BATCH,ORDINAL," ++ line_of names) (all_names table.columns)
heading_whole false table = ap line_of (all_names table.columns)

all_cells : (columns : List ColumnShape) (row : Cells) → length row ≡ length columns → cells_at (range_with_len 0 (length columns)) row ≡ row
all_cells columns row long = sym (fill_by_all (cell row) row (length columns) None long (λ k l. refl))

all_rows : (columns : List ColumnShape) (rows : List (RowName × Cells)) → AreRows columns (cells_of rows) → map (in_columns (range_with_len 0 (length columns))) rows ≡ rows
all_rows columns [] h = refl
all_rows columns (row ∷ rows) h =
    let rest : List (RowName × Cells) = map (in_columns (range_with_len 0 (length columns))) rows in
    ap (λ (c : Cells). let first : RowName × Cells = (row.0, c) in first ∷ rest) (all_cells columns row.1 (row_length columns row.1 h.0))
    ∙ ap (λ (l : List (RowName × Cells)). row ∷ l) (all_rows columns rows h.1)

kept_whole : (rows : List (RowName × Cells)) → filter (λ (row : RowName × Cells). true) rows ≡ rows
kept_whole [] = refl
kept_whole (row ∷ rows) = ap (λ (l : List (RowName × Cells)). row ∷ l) (kept_whole rows)

live_whole : (table : Table) (s : State) → rows_where table None s ≡ live_rows s
unfolding rows_where
live_whole table s = kept_whole (live_rows s)

rows_whole : (r : Replica) → AllFit r.schema (finite.entries r.state.batches) → dumped_rows (whole_choice r.schema) r.schema r.state ≡ live_rows r.state
rows_whole r h =
    ap (map (in_columns (range_with_len 0 (length r.schema.columns)))) (live_whole r.schema r.state) ∙ all_rows r.schema.columns (live_rows r.state) (live_fit r h)

dump_whole : (has_names : Bool) (r : Replica) → AllFit r.schema (finite.entries r.state.batches) → dumping_where has_names (whole_choice r.schema) r ≡ dumping has_names r
dump_whole has_names r h =
    ap (λ (t : List ℕ). t ++ flat_map (row_text has_names) (dumped_rows (whole_choice r.schema) r.schema r.state)) (heading_whole has_names r.schema)
    ∙ ap (λ (rows : List (RowName × Cells)). heading has_names r.schema ++ flat_map (row_text has_names) rows) (rows_whole r h)

same_choice : (a b : ChoiceForm) → ◌≡◌ {A = Result ChoiceForm Unchosen} (Ok a) (Ok b) → a ≡ b
same_choice a b e = cc

-- what is chosen without names and a condition is the whole
pub dump_chosen : (has_names : Bool) (r : Replica) (table : Table) (choice : ChoiceForm) → table ≡ r.schema → AllFit r.schema (finite.entries r.state.batches) → ◌≡◌ {A = Result ChoiceForm Unchosen} (Ok (whole_choice table)) (Ok choice)
    → dumping_where has_names choice r ≡ dumping has_names r
dump_chosen has_names r table choice same h is =
    ap (λ (k : ChoiceForm). dumping_where has_names k r) (sym (same_choice (whole_choice table) choice is) ∙ ap whole_choice same) ∙ dump_whole has_names r h

-- ---- one of the columns

column_of_rows : (places : List ℕ) (k : ℕ) (rows : List (RowName × Cells)) → k < length places → cells_in (get_or places k 0) rows ≡ cells_in k (map (in_columns places) rows)
column_of_rows places k [] l = refl
column_of_rows places k (row ∷ rows) l =
    ap (λ (c : Option ℤ). c ∷ cells_in (get_or places k 0) rows) (sym (get_or-map (cell row.1) places k 0 None l))
    ∙ ap (λ (cells : List (Option ℤ)). cell (cells_at places row.1) k ∷ cells) (column_of_rows places k rows l)

columns_of_rows : (choice : ChoiceForm) (table : Table) (s : State) → columns_in choice.places (rows_where table choice.condition s) ≡ map (λ k. cells_in k (dumped_rows choice table s)) (range_with_len 0 (length choice.places))
columns_of_rows choice table s =
    let rows : List (RowName × Cells) = rows_where table choice.condition s in
    fill_by_all (λ k. cells_in k (dumped_rows choice table s)) (columns_in choice.places rows) (length choice.places) [] (length-map {B = List (Option ℤ)} choice.places _)
    (λ k l. get_or-map (λ place. cells_in place rows) choice.places k 0 [] l ∙ column_of_rows choice.places k rows l)

pub dump_column_laws_hold : DumpColumnLaws
dump_column_laws_hold = record { columns = columns_of_rows; all = live_whole; rows = λ r h. rows_whole r h.within.fits; whole = λ r has_names h. dump_whole has_names r h.within.fits }
