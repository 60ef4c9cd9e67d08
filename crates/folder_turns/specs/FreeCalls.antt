-- Calls that are in turn after whatever calls.
use Rattle.folder_turns.specs.declared.request.Request.{Request}
use Rattle.folder_turns.specs.declared.request.Request.TheVariants.{Sync, ReadFile}

-- a read, or the sync of the open file
abbrev pub IsFree : Request → Type 0
IsFree Sync = Unit {0}
IsFree (ReadFile name) = Unit {0}
IsFree request = ⊥
