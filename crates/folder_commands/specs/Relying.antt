-- What a command relies on: batches and deletions that it brings and does not put itself, since a part of the folder has them.
use Rattle.std.specs.Prelude.{◌≡◌, ◌⊎◌, ℕ, true, false, List, Some, Ok}
use Rattle.std.specs.FinMap as map
use Rattle.std.specs.FinSet as set
use Rattle.std.specs.List.{list_any}
use Rattle.table_model.specs.Name.{row_name_cmp}
use Rattle.table_model.specs.State.{Batch}
use Rattle.table_model.specs.declared.names.BatchName.{BatchName}
use Rattle.table_model.specs.declared.names.RowName.{RowName}
use Rattle.folder_model.specs.Call.{Call}
use Rattle.folder_model.specs.Disk.{Among}
use Rattle.folder_model.specs.Turn.{HasRead, IsKept, IsStored}
use Rattle.folder_protocol.specs.Causes.{FindsNone, FindsOther, HasCall}
use Rattle.replica_store.specs.Replica.{Replica}
use Rattle.replica_changes.specs.Loads.{is_one_of}
use Rattle.replica_reports.specs.Held.{held_in}
use Rattle.folder_parts.specs.Covers.{folder_parts}
use Rattle.folder_parts.specs.PartName.{part_name}
use Rattle.folder_parts.specs.Parts.{PartForm}
use Rattle.folder_commands.specs.declared.reliance.Reliance.{Reliance}
use Rattle.folder_commands.specs.declared.reliance.Reliance.TheVariants.{Nothing, Batches, Load, Deletions}
use Rattle.folder_commands.specs.ReadParts.{AreReadSoFar}

-- a batch with its rows, or a deleted row
pub data Item : Type 0 where
  Rows : (name : BatchName) (rows : Batch) → Item
  Deletion : (row : RowName) → Item

-- a replica has it
abbrev pub HasItem : Replica → Item → Type 0
HasItem r (Rows name rows) = map.get r.state.batches name ≡ Some rows
HasItem r (Deletion row) = set.contains r.state.deleted row ≡ true

-- a file has it
abbrev pub IsIn : Item → List ℕ → Type 0
IsIn item file = (r : Replica) × (held_in file ≡ Ok r) × HasItem r item

-- a command relies on the parts that have it
abbrev pub ReliesOn : Reliance → Item → Type 0
ReliesOn (Batches names) (Rows name rows) = set.contains names name ≡ true
ReliesOn (Load names) (Rows name rows) = is_one_of names.first names.count name ≡ true
ReliesOn Deletions (Deletion row) = Unit {0}
ReliesOn reliance item = ⊥

-- ---- what is read

-- The name of each of these parts that has something on which a command relies is among these.
abbrev pub AreRelied : Reliance → List (List ℕ) → List PartForm → Type 0
AreRelied reliance relied parts = (part : PartForm) (item : Item) → Among part parts → IsIn item part.bytes → ReliesOn reliance item → Among part.name relied

-- So it is of parts that were read by the calls between two histories, one under each of those names that are wanted.
abbrev pub AreReadRelied : Reliance → List (List ℕ) → List (List ℕ) → List Call → List Call → Type 0
AreReadRelied reliance relied wanted before after = (many : ℕ) × AreReadSoFar (AreRelied reliance relied) many wanted before after

-- Each thing on which a command relies, and that a replica has, is in a part that was read and whose name is among these.
abbrev pub AreAllRelied : Reliance → List (List ℕ) → Replica → List Call → Type 0
AreAllRelied reliance relied whole calls =
    (item : Item) → HasItem whole item → ReliesOn reliance item → (part : List ℕ) × IsIn item part × HasRead folder_parts part calls × Among (part_name part) relied

-- ---- what is kept

-- The part with these bytes is kept; or, when it was to be kept, no file had its name, or one with other bytes.
abbrev pub IsKeptOrMissed : List ℕ → List Call → List Call → Type 0
IsKeptOrMissed part before after =
    IsKept folder_parts part after ⊎ HasCall (FindsNone (part_name part)) before after ⊎ HasCall (FindsOther (part_name part) part) before after

-- A new part with these bytes has it, or a part whose name is among these.
abbrev pub IsBrought : Item → List ℕ → List (List ℕ) → Type 0
IsBrought item bytes relied = IsIn item bytes ⊎ ((part : List ℕ) × IsIn item part × Among (part_name part) relied)

-- The new part has it, and is stored; or a part has it that is kept, or was gone or replaced when it was to be kept.
abbrev pub IsLeft : Item → List ℕ → List Call → List Call → Type 0
IsLeft item bytes before after =
    (IsIn item bytes × IsStored folder_parts bytes after) ⊎ ((part : List ℕ) × IsIn item part × IsKeptOrMissed part before after)

-- Whatever a new part or a part of these names has is left so.
abbrev pub AreLeft : List ℕ → List (List ℕ) → List Call → List Call → Type 0
AreLeft bytes relied before after = (item : Item) → IsBrought item bytes relied → IsLeft item bytes before after

-- ---- what is skimmed

-- A command relies on nothing that a part has with batches of these names and with these deleted rows.
abbrev pub IsNoneMet : Reliance → List BatchName → set.FinSet row_name_cmp → Type 0
IsNoneMet Nothing names deleted = Unit {0}
IsNoneMet (Batches wanted) names deleted = list_any (set.contains wanted) names ≡ false
IsNoneMet (Load wanted) names deleted = list_any (is_one_of wanted.first wanted.count) names ≡ false
IsNoneMet Deletions names deleted = deleted ≡ set.empty
