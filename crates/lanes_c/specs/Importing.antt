-- What an import for C gives.
use Rattle.std.specs.Prelude.{◌≡◌, ◌⊎◌, ℕ, ◌*◌, ◌<◌, Bool, cond, ◌&&◌, ◌==◌, List, length, Option, Some, None, Ok, Err}
use Rattle.table_model.specs.State.{Batch}
use Rattle.table_model.specs.Table.{Table, row_limit}
use Rattle.table_model.specs.declared.names.BatchName.{BatchName}
use Rattle.table_model.specs.declared.refusal.Refusal.TheVariants.{Full}
use Rattle.column_file.specs.Input.{IsUnread}
use Rattle.replica_store.specs.Replica.{Replica, batch_limit}
use Rattle.csv_rows.specs.CsvText.{rows_in}
use Rattle.csv_rows.specs.DialectForm.{DialectForm, usual}
use Rattle.csv_rows.specs.declared.error.CsvError.TheVariants as csv
use Rattle.replica_reports.specs.Held.{held_in}
use Rattle.replica_changes.specs.CommandForms.{Import}
use Rattle.replica_changes.specs.CsvLoads.{AreCut}
use Rattle.replica_changes.specs.Loads.{LoadForm}
use Rattle.lanes_c.specs.Calls.{Yields, change_of}
use Rattle.lanes_c.specs.Opened.{IsWhyNotOpened}
use Rattle.lanes_c.specs.Rooms.{Given}
use Rattle.lanes_c.specs.declared.fault.Fault.{Fault}
use Rattle.lanes_c.specs.declared.fault.Fault.TheVariants as faults

-- the batches of a load are the rows of a text in a dialect, read as rows of a table
abbrev pub LoadsIn : DialectForm → Table → List ℕ → Bool → LoadForm → Type 0
LoadsIn dialect table text has_heading load = (rows : Batch) × (rows_in dialect table has_heading text ≡ Ok rows) × (load.schema ≡ table) × AreCut rows load.batches

-- the same of the usual dialect
abbrev pub LoadsText : Table → List ℕ → Bool → LoadForm → Type 0
LoadsText table text has_heading load = LoadsIn usual table text has_heading load

-- the same of the table that a file holds
abbrev pub Loads : List ℕ → List ℕ → Bool → LoadForm → Type 0
Loads file text has_heading load = (r : Replica) × (held_in file ≡ Ok r) × LoadsText r.schema text has_heading load

-- a text has more rows than the batches of a replica may have, if it has no fault
abbrev pub HasTooMany : DialectForm → Table → Bool → List ℕ → Type 0
HasTooMany dialect table has_heading text = (rows : Batch) → rows_in dialect table has_heading text ≡ Ok rows → batch_limit * row_limit < length rows

-- Why the rows of a text in a dialect weren't loaded as rows of a table: the text's first fault, or Full, which means too many rows; out of
-- memory and ReadFault may come in the place of anything.
abbrev pub IsWhyNotReadIn : DialectForm → Table → List ℕ → Bool → Fault → Type 0
IsWhyNotReadIn dialect table text has_heading (faults.Refused e) = IsUnread e ⊎ ((e ≡ Full) × HasTooMany dialect table has_heading text)
IsWhyNotReadIn dialect table text has_heading (faults.BadCsv line column) = rows_in dialect table has_heading text ≡ Err (csv.BadCsv line column)
IsWhyNotReadIn dialect table text has_heading (faults.LineTooLong line) = rows_in dialect table has_heading text ≡ Err (csv.LineTooLong line)
IsWhyNotReadIn dialect table text has_heading other = ⊥

-- the same of the usual dialect
abbrev pub IsWhyNotRead : Table → List ℕ → Bool → Fault → Type 0
IsWhyNotRead table text has_heading fault = IsWhyNotReadIn usual table text has_heading fault

-- why the rows of a text weren't loaded as rows of the table that a file holds: the file's first fault, or the text's
abbrev pub IsWhyNotLoaded : List ℕ → List ℕ → Bool → Fault → Type 0
IsWhyNotLoaded file text has_heading fault = IsWhyNotOpened fault file ⊎ ((r : Replica) × (held_in file ≡ Ok r) × IsWhyNotRead r.schema text has_heading fault)

-- the name of these numbers; none where both are 0
abbrev pub name_given : ℕ → ℕ → Option BatchName
name_given origin number = cond (origin == 0 && number == 0) None (Some (record { origin = record { 0 = origin }; number = record { 0 = number } }))

-- the canonical file of what a file holds and a load brings, under a name that is given or drawn of words
abbrev pub ImportsLoad : Given → LoadForm → Option BatchName → List ℕ → List ℕ → Type 0
ImportsLoad given load first words file = Yields given (change_of (Import load first words) file)

-- lanes_import: the canonical file of what a file holds and the rows of a text; or why these weren't loaded; or what their import is
-- refused as
abbrev pub Imports : Given → List ℕ → Bool → Option BatchName → List ℕ → List ℕ → Type 0
Imports (Ok bytes) text has_heading first words file = (load : LoadForm) × Loads file text has_heading load × ImportsLoad (Ok bytes) load first words file
Imports (Err fault) text has_heading first words file =
    IsWhyNotLoaded file text has_heading fault ⊎ ((load : LoadForm) × Loads file text has_heading load × ImportsLoad (Err fault) load first words file)
