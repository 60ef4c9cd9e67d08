-- How far a turn is with the part in whose place it removes others.
use Rattle.std.specs.Prelude.{◌≡◌, ◌&&◌, ◌++◌, ℕ, Bool, true, false, List, [], map, if◌then◌else◌, bytes_eq, Option, Some}
use Rattle.std.specs.String.{string_bytes}
use Rattle.folder_model.specs.Call.{Call, Kind, Exclusive, Shared, Synced, Removed, Settled, Locked, Unlocked, Read, lock_of}
use Rattle.folder_model.specs.Disk.{Among}
use Rattle.folder_model.specs.Parts.{Parts}
use Rattle.folder_model.specs.Turn.{Stage, Seen, Whole, Guarded, stage_of}
use Rattle.folder_turns.specs.Calls.{calls_after, is_done}
use Rattle.folder_turns.specs.declared.guarding.Guard.{Guard}
use Rattle.folder_turns.specs.declared.guarding.Guard.TheVariants as guards
use Rattle.folder_turns.specs.declared.order.Order.{Order}
use Rattle.folder_turns.specs.declared.order.Task.{Task}
use Rattle.folder_turns.specs.declared.order.Task.TheVariants as tasks
use Rattle.folder_turns.specs.declared.request.Answer.{Answer}
use Rattle.folder_turns.specs.declared.request.Answer.TheVariants as answers
use Rattle.folder_turns.specs.declared.request.Request.{Request}
use Rattle.folder_turns.specs.declared.request.Request.TheVariants.{ReadFile, Remove, Sync}
use Rattle.folder_turns.specs.declared.request.Told.{Told}

-- The order's part was read, with its bytes.
abbrev pub IsItsPart : Order → Request → Answer → Type 0
IsItsPart order (ReadFile name) (answers.Found bytes) = (string_bytes name ≡ string_bytes order.name) × (bytes.items ≡ order.bytes.items)
IsItsPart order request answer = ⊥

-- after a call that leaves the lock
abbrev pub alone_of : Guard → Guard
alone_of guards.Open = guards.Open
alone_of guard = guards.Alone

-- after the part was read
abbrev pub seen_of : Guard → Guard
seen_of guards.Open = guards.Open
seen_of guard = guards.Seen

-- after the open file was synced
abbrev pub synced_of : Guard → Guard
synced_of guards.Seen = guards.Whole
synced_of guard = alone_of guard

-- after the folder was synced
abbrev pub settled_of : Guard → Guard
settled_of guards.Whole = guards.Guarded
settled_of guards.Guarded = guards.Guarded
settled_of guard = alone_of guard

-- after a call was asked for and answered, which may have read the part
abbrev pub guard_after : Call → Answer → Bool → Guard → Guard
guard_after (Locked Exclusive ok) answer is_part guard = if is_done answer then guards.Alone else guards.Open
guard_after (Locked Shared ok) answer is_part guard = guards.Open
guard_after Unlocked answer is_part guard = guards.Open
guard_after (Read name given) answer is_part guard = if is_part then seen_of guard else alone_of guard
guard_after (Synced ok) answer is_part guard = if is_done answer then synced_of guard else alone_of guard
guard_after (Settled ok) answer is_part guard = if is_done answer then settled_of guard else alone_of guard
guard_after (Removed name ok) answer is_part guard = guard
guard_after call answer is_part guard = alone_of guard

-- whether the exclusive lock is held
abbrev pub is_alone : Option Kind → Bool
is_alone (Some Exclusive) = true
is_alone lock = false

-- whether the part with these bytes was read
abbrev pub is_seen : List ℕ → Stage → Bool
is_seen bytes (Seen found) = bytes_eq found bytes
is_seen bytes stage = false

-- and synced
abbrev pub is_whole : List ℕ → Stage → Bool
is_whole bytes (Whole found) = bytes_eq found bytes
is_whole bytes stage = false

-- and then the folder, under the exclusive lock
abbrev pub is_guarded : List ℕ → Stage → Bool
is_guarded bytes (Guarded found) = bytes_eq found bytes
is_guarded bytes stage = false

-- whether a lock and a stage are as this says
abbrev pub is_at : Guard → List ℕ → Option Kind → Stage → Bool
is_at guards.Open bytes lock stage = true
is_at guards.Alone bytes lock stage = is_alone lock
is_at guards.Seen bytes lock stage = is_alone lock && is_seen bytes stage
is_at guards.Whole bytes lock stage = is_alone lock && is_whole bytes stage
is_at guards.Guarded bytes lock stage = is_alone lock && is_guarded bytes stage

-- Whatever calls were before those told, the lock and the stage after all of them are as this says, if the order's name is that of its bytes.
abbrev pub HasGuard : Order → List Told → Guard → Type 0
HasGuard order told guard =
    (parts : Parts) (before : List Call) → string_bytes order.name ≡ parts.name_of order.bytes.items
    → is_at guard order.bytes.items (lock_of (calls_after order.bytes.items told [] ++ before)) (stage_of parts (calls_after order.bytes.items told [] ++ before)) ≡ true

-- the task removes parts
abbrev pub Removes : Task → Type 0
Removes tasks.Replace = Unit {0}
Removes tasks.Remove = Unit {0}
Removes task = ⊥

-- A read or the sync of the open file, which are in turn after whatever calls; or the removal of a part in whose place the order's part is guarded.
abbrev pub IsAhead : Order → Guard → Request → Type 0
IsAhead order guard Sync = Unit {0}
IsAhead order guard (ReadFile name) = Unit {0}
IsAhead order guard (Remove name) = (guard ≡ guards.Guarded) × Removes order.task × Among (string_bytes name) (map string_bytes order.names.items)
IsAhead order guard request = ⊥

-- the removal of one of these names
abbrev pub IsRemoval : List (List ℕ) → Request → Type 0
IsRemoval names (Remove name) = Among (string_bytes name) names
IsRemoval names request = ⊥
