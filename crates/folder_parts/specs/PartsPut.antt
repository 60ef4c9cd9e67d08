-- The parts that commands on a folder put: what each holds, given what the folder's parts hold.
use Rattle.std.specs.Prelude.{◌≡◌, ℕ, Bool, true, false, List, [], Option, Some, None, Result, Ok, Err}
use Rattle.std.specs.Io.KnownBytes.{Appends}
use Rattle.table_model.specs.Table.{Table}
use Rattle.table_model.specs.declared.names.BatchName.{BatchName}
use Rattle.table_model.specs.declared.names.RowName.{RowName}
use Rattle.table_model.specs.declared.refusal.Refusal.{Refusal}
use Rattle.replica_store.specs.Exchange.{OfferForm}
use Rattle.replica_store.specs.Replica.{Replica, SaysChange, deleted_rows}
pub use Rattle.replica_changes.specs.Brings.{empty_replica}
use Rattle.replica_changes.specs.Brings.{deletes_brought, load_brought, offers_brought}
use Rattle.replica_reports.specs.Held.{held_in}
use Rattle.replica_changes.specs.Commands.{file_of, as_held, Made, file_made, Refuses}
use Rattle.replica_changes.specs.Loads.{LoadForm, importing}
use Rattle.replica_changes.specs.declared.importing.Imported.{Imported}

-- a load under a drawn name: its batches alone
abbrev pub part_of_load : LoadForm → List ℕ → Made Imported
part_of_load load words = importing load None words (empty_replica load.schema)

-- A load under a given name, given what the parts hold: what the import of it is answered, and the batches that no part holds.
abbrev pub part_of_named_load : LoadForm → BatchName → Replica → Made Imported
part_of_named_load load name held = load_brought load (Some name) [] held

-- deletes by a condition: those of the rows that it finds alone
abbrev pub part_of_deletes : List ℕ → Replica → Made ℕ
part_of_deletes text held = deletes_brought text held

-- deletes of a range of rows
abbrev pub part_of_rows : Table → RowName → ℕ → Made (Unit {0})
part_of_rows table first last = deleted_rows (empty_replica table) first last

-- offers: their batches that no part holds, and their deletions
abbrev pub part_of_offers : List OfferForm → Replica → Made (ℕ × ℕ × ℕ)
part_of_offers offers held = offers_brought offers held

-- A part was written where there is anything to put, and it is read as what it holds; and else nothing was written.
abbrev pub WritesPart : Bool → Option (List ℕ) → Option (List ℕ) → Replica → Type 0
WritesPart true before now part = Appends before now (file_of part) × (held_in (file_of part) ≡ Ok (as_held part))
WritesPart false before now part = now ≡ before

-- A call that writes a part: what is answered is what the command makes, and its part was written. A refused call wrote nothing, and
-- the refusal is the one that is given, or out of memory; or a write failed after a front.
abbrev pub PutsPart : {X Y : Type 0} → (X → Y) → (X → Bool) → Result X Refusal → Option (List ℕ) → Option (List ℕ) → Made Y → Type 0
PutsPart view is_some (Ok x) before now made = (part : Replica) × (made ≡ Ok (view x, part)) × WritesPart (is_some x) before now part
PutsPart view is_some (Err e) before now made = Refuses e before now (file_made made)

-- The answer says exactly whether the command makes something else of what is held.
abbrev pub TellsChange : {X Y : Type 0} → (X → Y) → (X → Bool) → Result X Refusal → Replica → Made Y → Type 0
TellsChange view changed (Ok x) held made = (new : Replica) × (made ≡ Ok (view x, new)) × SaysChange (changed x) held new
TellsChange view changed (Err e) held made = Unit {0}
