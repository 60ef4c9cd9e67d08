-- Of a command together with the taking of its lock, on whatever disk it begins.
use Rattle.std.specs.Prelude.{◌≡◌, ◌⊎◌, ℕ, Bool, List, ◌++◌, Option, Some, Result, Ok, Contains}
use Rattle.table_model.specs.State.{empty_state}
use Rattle.table_model.specs.Table.{Table}
use Rattle.table_model.specs.declared.names.RowName.{RowName}
use Rattle.table_model.specs.declared.refusal.Refusal.{Refusal}
use Rattle.replica_store.specs.Replica.{Replica}
use Rattle.column_file.specs.Files.{canonical_file}
use Rattle.replica_reports.specs.Held.{held_in}
use Rattle.replica_changes.specs.CommandForms.{CommandForm, adding, answer_of}
use Rattle.replica_changes.specs.Commands.{Made, file_of, as_held}
use Rattle.replica_changes.specs.Forgetting.{forgetting}
use Rattle.replica_changes.specs.declared.command.Answer.{Answer}
use Rattle.replica_store.specs.declared.forgotten.Forgotten.{Forgotten}
use Rattle.file_protocol.specs.Event.{Event}
use Rattle.file_protocol.specs.Disk.{Disk, MayLeave, MayShow, Reads}
use Rattle.file_protocol.specs.Failed.{HasFailed}
use Rattle.file_protocol.specs.Safe.{Run, Moment, IsHeld, TakesLock, StaysOld}
use Rattle.file_protocol.specs.declared.outcome.Replaced.TheVariants.{Synced, Unsynced}
use Rattle.file_commands.specs.declared.held_rows.HeldRows.{HeldRows}
use Rattle.file_commands.specs.declared.outcome.Left.{Left}
use Rattle.file_commands.specs.declared.outcome.Left.TheVariants.{Changed, Kept, KeptUnsynced}
use Rattle.file_commands.specs.CrashLaws.{IsFileAfter, BeforeOrAfter, HasAnswered, Creating}
use Rattle.file_commands.specs.HeldDeletes.{deleted_if_held}

-- The lock was had at some moment of these calls, when the disk was v; a crash left then what it could leave first, or what others put
-- there meanwhile.
pub record WasHeld (lock name : List ℕ) (laters : List (Option (List ℕ))) (calls : List Event) (d v : Disk) : Type 0 where
  pub later : List Event
  pub earlier : List Event
  pub calls_are : calls ≡ later ++ earlier
  pub run : Run lock name laters earlier d v
  pub held : IsHeld lock name v
  pub old : (c : Option (List ℕ)) → MayLeave v name c → MayLeave d name c ⊎ Contains laters c

-- A crash at any moment between two histories leaves what it could leave before them; or the file of the state after, of what the file
-- held when the lock was had; or what others put there.
abbrev pub BeforeOrAfterThroughout : {Y : Type 0} → (Replica → Made Y) → List ℕ → List ℕ → List Event → List Event → Type 0
BeforeOrAfterThroughout command lock name before after =
    (calls : List Event) × (after ≡ calls ++ before)
    × ((laters : List (Option (List ℕ))) (d e : Disk) → Moment lock name laters calls d e
    → (c : Option (List ℕ)) → MayLeave e name c
    → MayLeave d name c ⊎ ((v : Disk) × WasHeld lock name laters calls d v × IsFileAfter command name v c) ⊎ Contains laters c)

-- the same of a file that is made
abbrev pub CreatingThroughout : Result Table Refusal → List ℕ → List ℕ → List Event → List Event → Type 0
CreatingThroughout made lock name before after =
    (calls : List Event) × (after ≡ calls ++ before)
    × ((laters : List (Option (List ℕ))) (d e : Disk) → Moment lock name laters calls d e
    → (c : Option (List ℕ)) → MayLeave e name c
    → MayLeave d name c ⊎ ((table : Table) × (made ≡ Ok table) × (c ≡ Some (canonical_file table empty_state))) ⊎ Contains laters c)

-- After these calls the lock was had when the disk was v, the file had the old bytes then, and a crash leaves the new ones, or what a later
-- holder of the lock put there.
abbrev pub LeavesThroughout : List ℕ → List ℕ → List ℕ → List ℕ → List Event → List Event → Type 0
LeavesThroughout lock name old new before after =
    (calls : List Event) × (after ≡ calls ++ before)
    × ((laters : List (Option (List ℕ))) (d e : Disk) → Run lock name laters calls d e
    → (v : Disk) × WasHeld lock name laters calls d v × Reads v name (Some old)
    × ((c : Option (List ℕ)) → MayLeave e name c → (c ≡ Some new) ⊎ Contains laters c))

-- the same of what each process reads
abbrev pub ShowsThroughout : List ℕ → List ℕ → List ℕ → List ℕ → List Event → List Event → Type 0
ShowsThroughout lock name old new before after =
    (calls : List Event) × (after ≡ calls ++ before)
    × ((laters : List (Option (List ℕ))) (d e : Disk) → Run lock name laters calls d e
    → (v : Disk) × WasHeld lock name laters calls d v × Reads v name (Some old)
    × ((c : Option (List ℕ)) → MayShow e name c → (c ≡ Some new) ⊎ Contains laters c))

-- After these calls a crash leaves what it could leave before them, or what others put there.
abbrev pub StaysThroughout : List ℕ → List ℕ → List ℕ → List Event → List Event → Type 0
StaysThroughout lock name old before after =
    (calls : List Event) × (after ≡ calls ++ before)
    × ((laters : List (Option (List ℕ))) (d e : Disk) → Run lock name laters calls d e
    → (v : Disk) × WasHeld lock name laters calls d v × Reads v name (Some old)
    × ((c : Option (List ℕ)) → MayLeave e name c → MayLeave d name c ⊎ Contains laters c))

-- how the file is left
abbrev pub IsLeftThroughout : Left → List ℕ → List ℕ → List ℕ → List ℕ → List Event → List Event → Type 0
IsLeftThroughout (Changed Synced) lock name old new before after = LeavesThroughout lock name old new before after
IsLeftThroughout (Changed Unsynced) lock name old new before after = ShowsThroughout lock name old new before after
IsLeftThroughout Kept lock name old new before after = (new ≡ old) × LeavesThroughout lock name old old before after
IsLeftThroughout KeptUnsynced lock name old new before after = (new ≡ old) × StaysThroughout lock name old before after × HasFailed before after

-- A command that has answered: what it answers, and how the file is left.
abbrev pub HasAnsweredThroughout : {X Y : Type 0} → (X → Y) → (Replica → Made Y) → X → Left → List ℕ → List ℕ → List Event → List Event → Type 0
HasAnsweredThroughout view command answer left lock name before after =
    (old : Replica) × (new : Replica)
    × (held_in (file_of old) ≡ Ok old) × (command old ≡ Ok (view answer, new)) × (held_in (file_of new) ≡ Ok (as_held new))
    × IsLeftThroughout left lock name (file_of old) (file_of new) before after

-- Taking the lock and then doing a command is one such whole.
abbrev pub HoldingThen : {Y : Type 0} → (Replica → Made Y) → Type 0
HoldingThen command =
    (lock name : List ℕ) (before held after : List Event) →
    TakesLock lock name before held → StaysOld lock name before held →
    BeforeOrAfter command lock name held after → BeforeOrAfterThroughout command lock name before after

-- so is its answer
abbrev pub HoldingThenAnswers : {X Y : Type 0} → (X → Y) → (Replica → Made Y) → Type 0
HoldingThenAnswers {X = X} view command =
    (answer : X) (left : Left) (lock name : List ℕ) (before held after : List Event) →
    TakesLock lock name before held → StaysOld lock name before held →
    HasAnswered view command answer left lock name held after → HasAnsweredThroughout view command answer left lock name before after

-- both
pub record Joins {X Y : Type 0} (view : X → Y) (command : Replica → Made Y) : Type 0 where
  pub any_moment : HoldingThen command
  pub answered : HoldingThenAnswers view command

-- each command, with the taking of its lock
pub record HoldingThenCommanding : Type 0 where
  pub change : (command : CommandForm) → Joins {X = Answer} answer_of (adding command)
  pub delete_held_rows : (first : RowName) (last : ℕ) → Joins {X = HeldRows} (λ answer. answer.is_held) (λ r. deleted_if_held r first last)
  pub forget : Joins {X = Forgotten} (λ answer. (answer.batches, answer.rows)) forgetting
  pub create : (made : Result Table Refusal) (lock name : List ℕ) (before held after : List Event) →
      TakesLock lock name before held → StaysOld lock name before held →
      Creating made lock name held after → CreatingThroughout made lock name before after
