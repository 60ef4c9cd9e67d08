-- What a command leaves of a file, at whatever moment a crash comes.
use Rattle.std.specs.Prelude.{◌≡◌, ◌⊎◌, ℕ, List, ◌++◌, Option, Some, None, Result, Ok, Err, Contains}
use Rattle.table_model.specs.State.{empty_state}
use Rattle.table_model.specs.Table.{Table}
use Rattle.table_model.specs.declared.refusal.Refusal.{Refusal}
use Rattle.replica_store.specs.Replica.{Replica}
use Rattle.column_file.specs.Files.{canonical_file}
use Rattle.column_file.specs.Input.{IsUnread}
use Rattle.replica_reports.specs.Held.{held_in}
use Rattle.replica_changes.specs.Commands.{Made, file_of, as_held, merged_files, written_of}
use Rattle.file_protocol.specs.Event.{Event}
use Rattle.file_protocol.specs.Disk.{Disk, MayLeave, Reads}
use Rattle.file_protocol.specs.Safe.{Moment, IsHeld, IsNew, IsInPlace}
use Rattle.file_protocol.specs.Failed.{HasFailed}
use Rattle.file_protocol.specs.Whole.{IsChanged, IsChangedInPlace, IsUnchanged, IsOnDisk}
use Rattle.file_protocol.specs.declared.outcome.Replaced.{Replaced}
use Rattle.file_protocol.specs.declared.outcome.Replaced.TheVariants.{Synced, Unsynced}
use Rattle.file_commands.specs.declared.outcome.Left.{Left}
use Rattle.file_commands.specs.declared.outcome.Left.TheVariants.{Changed, Kept, KeptUnsynced}

-- The file of the state after: when the lock was had the file read as the canonical file of a replica, the command makes another of
-- that, and this is the canonical file of the other, which is read as that.
abbrev pub IsFileAfter : {Y : Type 0} → (Replica → Made Y) → List ℕ → Disk → Option (List ℕ) → Type 0
IsFileAfter {Y = Y} command name d c =
    (old : Replica) × (new : Replica) × (answer : Y)
    × Reads d name (Some (file_of old)) × (held_in (file_of old) ≡ Ok old) × (command old ≡ Ok (answer, new))
    × (held_in (file_of new) ≡ Ok (as_held new)) × (c ≡ Some (file_of new))

-- A crash at any moment between two histories leaves what a crash could leave when the lock was had, or the file of the state after, or
-- what a later holder of the lock put there.
abbrev pub BeforeOrAfter : {Y : Type 0} → (Replica → Made Y) → List ℕ → List ℕ → List Event → List Event → Type 0
BeforeOrAfter command lock name before after =
    (calls : List Event) × (after ≡ calls ++ before)
    × ((laters : List (Option (List ℕ))) (d e : Disk) → IsHeld lock name d → Moment lock name laters calls d e
    → (c : Option (List ℕ)) → MayLeave e name c → MayLeave d name c ⊎ IsFileAfter command name d c ⊎ Contains laters c)

-- How the file is left. If nothing changed it is on the disk, so that a crash leaves it as it is; or a call that was to sync it failed.
abbrev pub IsLeft : Left → List ℕ → List ℕ → List ℕ → List ℕ → List Event → List Event → Type 0
IsLeft (Changed Synced) lock name old new before after = IsChanged lock name old new before after
IsLeft (Changed Unsynced) lock name old new before after = IsChangedInPlace lock name old new before after
IsLeft Kept lock name old new before after = (new ≡ old) × IsOnDisk lock name old before after
IsLeft KeptUnsynced lock name old new before after = (new ≡ old) × IsUnchanged lock name old before after × HasFailed before after

-- A command that has answered: the file read as the canonical file of a replica when the lock was had, the answer and the new replica
-- are what the command makes of that, and the file is left as the new one's.
abbrev pub HasAnswered : {X Y : Type 0} → (X → Y) → (Replica → Made Y) → X → Left → List ℕ → List ℕ → List Event → List Event → Type 0
HasAnswered view command answer left lock name before after =
    (old : Replica) × (new : Replica)
    × (held_in (file_of old) ≡ Ok old) × (command old ≡ Ok (view answer, new)) × (held_in (file_of new) ≡ Ok (as_held new))
    × IsLeft left lock name (file_of old) (file_of new) before after

-- the canonical file of the empty table
abbrev pub IsEmptyFile : Result Table Refusal → List ℕ → Type 0
IsEmptyFile made bytes = (table : Table) × (made ≡ Ok table) × (bytes ≡ canonical_file table empty_state)

-- A file that is made: a crash at any moment leaves what it could leave before, or the canonical file of the empty table; or what a
-- later holder of the lock put there.
abbrev pub Creating : Result Table Refusal → List ℕ → List ℕ → List Event → List Event → Type 0
Creating made lock name before after =
    (calls : List Event) × (after ≡ calls ++ before)
    × ((laters : List (Option (List ℕ))) (d e : Disk) → IsHeld lock name d → Moment lock name laters calls d e
    → (c : Option (List ℕ)) → MayLeave e name c
    → MayLeave d name c ⊎ ((table : Table) × (made ≡ Ok table) × (c ≡ Some (canonical_file table empty_state))) ⊎ Contains laters c)

-- new bytes, by how they were put in place
abbrev pub IsPut : Replaced → List ℕ → List ℕ → List ℕ → List Event → List Event → Type 0
IsPut Synced lock name new before after = IsNew lock name new before after
IsPut Unsynced lock name new before after = IsInPlace lock name new before after

-- once it is answered that it is made, the canonical file of the empty table
abbrev pub HasCreated : Result Table Refusal → Replaced → List ℕ → List ℕ → List Event → List Event → Type 0
HasCreated made how lock name before after = (table : Table) × (made ≡ Ok table) × IsPut how lock name (canonical_file table empty_state) before after

-- what was merged is the canonical file of what all of some files hold, and it is read as that
abbrev pub IsMerged : Result (List ℕ) Refusal → List ℕ → List (List ℕ) → Type 0
IsMerged (Ok bytes) first others = (new : Replica) × (merged_files first others ≡ Ok new) × (bytes ≡ file_of new) × (held_in (file_of new) ≡ Ok (as_held new))
IsMerged (Err e) first others = (written_of (merged_files first others) ≡ Err e) ⊎ IsUnread e
