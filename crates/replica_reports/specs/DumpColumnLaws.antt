-- What a dump of some columns and rows has to do with the whole dump, and with the columns that are given for the same choice.
use Rattle.std.specs.Prelude.{◌≡◌, Bool, map, length, None}
use Rattle.std.specs.List.{range_with_len}
use Rattle.table_model.specs.State.{State, live_rows}
use Rattle.table_model.specs.Table.{Table}
use Rattle.replica_store.specs.Replica.{Replica}
use Rattle.column_file.specs.Files.{HasFile}
use Rattle.live_columns.specs.Chosen.{cells_in, columns_in, rows_where}
use Rattle.live_columns.specs.Choices.{ChoiceForm}
use Rattle.replica_reports.specs.Dumps.{dumped_rows, dumping, dumping_where}

-- the choice of all columns and no condition
abbrev pub whole_choice : Table → ChoiceForm
whole_choice table = record { condition = None; places = range_with_len 0 (length table.columns) }

-- The columns that are given for a choice are those of the rows that a dump of the same choice writes, column by column. Without a
-- condition the rows are the live rows. A dump of all columns without a condition writes the live rows, and is the whole dump.
pub record DumpColumnLaws : Type 0 where
  pub columns : (choice : ChoiceForm) (table : Table) (s : State) →
      columns_in choice.places (rows_where table choice.condition s) ≡ map (λ k. cells_in k (dumped_rows choice table s)) (range_with_len 0 (length choice.places))
  pub all : (table : Table) (s : State) → rows_where table None s ≡ live_rows s
  pub rows : (r : Replica) → HasFile r.schema r.state → dumped_rows (whole_choice r.schema) r.schema r.state ≡ live_rows r.state
  pub whole : (r : Replica) (has_names : Bool) → HasFile r.schema r.state → dumping_where has_names (whole_choice r.schema) r ≡ dumping has_names r
