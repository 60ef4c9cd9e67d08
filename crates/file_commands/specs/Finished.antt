-- How a file whose lock is had is left.
use Rattle.std.specs.Prelude.{◌≡◌, ℕ, Bool, true, false, List}
use Rattle.table_model.specs.declared.refusal.Refusal.{Refusal}
use Rattle.table_model.specs.declared.refusal.Refusal.TheVariants.{Memory, WriteFault}
use Rattle.file_protocol.specs.Event.{Event}
use Rattle.file_protocol.specs.Failed.{HasFailed}
use Rattle.file_protocol.specs.Locking.{OnlyKeeps}
use Rattle.file_protocol.specs.Safe.{OldOrNew, IsNew, IsInPlace}
use Rattle.file_protocol.specs.Whole.{StaysOnDisk}
use Rattle.file_protocol.specs.declared.outcome.Replaced.TheVariants.{Synced, Unsynced}
use Rattle.file_commands.specs.declared.outcome.Left.{Left}
use Rattle.file_commands.specs.declared.outcome.Left.TheVariants.{Changed, Kept, KeptUnsynced}

-- A crash at any moment leaves the old bytes or the new ones, if the file is changed; else nothing was done but syncing it and its folder and giving the lock back.
abbrev pub AtAnyMoment : Bool → List ℕ → List ℕ → List ℕ → List Event → List Event → Type 0
AtAnyMoment true lock name new before after = OldOrNew lock name new before after
AtAnyMoment false lock name new before after = OnlyKeeps lock before after

-- what holds once it is answered how the file was left
abbrev pub Finishes : Left → Bool → List ℕ → List ℕ → List ℕ → List Event → List Event → Type 0
Finishes (Changed Synced) is_changed lock name new before after = (is_changed ≡ true) × IsNew lock name new before after
Finishes (Changed Unsynced) is_changed lock name new before after = (is_changed ≡ true) × IsInPlace lock name new before after
Finishes Kept is_changed lock name new before after = (is_changed ≡ false) × OnlyKeeps lock before after × StaysOnDisk lock name before after
Finishes KeptUnsynced is_changed lock name new before after = (is_changed ≡ false) × OnlyKeeps lock before after × HasFailed before after

-- what a refusal is where writes go to memory
abbrev pub in_memory : Refusal → Refusal
in_memory WriteFault = Memory
in_memory other = other
