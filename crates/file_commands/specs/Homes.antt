-- A file is a home: what was safe stays safe, what was answered is safe, and who reads has it.
use Rattle.std.specs.Prelude.{◌≡◌, ◌⊎◌, ℕ, Bool, true, List, Option, Some, Ok, Contains}
use Rattle.folder_model.specs.Keeps.{Keeps}
use Rattle.replica_store.specs.Replica.{Replica}
use Rattle.replica_reports.specs.Held.{held_in}
use Rattle.replica_changes.specs.Commands.{Made, file_of, as_held}
use Rattle.file_protocol.specs.Event.{Event}
use Rattle.file_protocol.specs.Disk.{Disk, MayLeave, Reads}
use Rattle.file_protocol.specs.Safe.{Moment, Restarts}
use Rattle.file_commands.specs.Throughout.{BeforeOrAfterThroughout}

-- when bytes hold all that others hold: each covers what is covered by what it covers
pub record Covering : Type 0 where
  pub covers : List ℕ → List ℕ → Bool
  pub along : (c b a : List ℕ) → covers c b ≡ true → covers b a ≡ true → covers c a ≡ true

-- what is left covers these bytes
abbrev pub IsCovered : Covering → List ℕ → Option (List ℕ) → Type 0
IsCovered covering bytes left = (b : List ℕ) × (left ≡ Some b) × (covering.covers b bytes ≡ true)

-- bytes are safe: whatever a crash leaves under the name covers them
abbrev pub SafeInFile : Covering → List ℕ → Disk → List ℕ → Type 0
SafeInFile covering name d bytes = (left : Option (List ℕ)) → MayLeave d name left → IsCovered covering bytes left

-- what others put there covers what was safe
abbrev pub OthersCover : Covering → List ℕ → List (Option (List ℕ)) → Disk → Type 0
OthersCover covering name laters d =
    (bytes : List ℕ) → SafeInFile covering name d bytes → (left : Option (List ℕ)) → Contains laters left → IsCovered covering bytes left

-- A command leaves what a crash could leave before it; or bytes that cover some that could be left before it, or that others put there; or
-- what others put there.
abbrev pub BeforeOrCovering : Covering → List ℕ → List (Option (List ℕ)) → Disk → Option (List ℕ) → Type 0
BeforeOrCovering covering name laters d left =
    MayLeave d name left
    ⊎ ((old new : List ℕ) × (MayLeave d name (Some old) ⊎ Contains laters (Some old)) × (covering.covers new old ≡ true) × (left ≡ Some new))
    ⊎ Contains laters left

-- e is a moment of some commands from d on, also after losses of power. What others put in the file's place meanwhile covers what was safe.
pub data LaterInFile (covering : Covering) (name : List ℕ) : Disk → Disk → Type 0 where
  -- a moment of one command
  Commanded : {d e : Disk} (laters : List (Option (List ℕ))) → OthersCover covering name laters d
      → ((left : Option (List ℕ)) → MayLeave e name left → BeforeOrCovering covering name laters d left) → LaterInFile covering name d e
  -- the power was lost
  Restarted : {d e : Disk} → Restarts d e → LaterInFile covering name d e
  -- one after the other
  Then : {d v e : Disk} → LaterInFile covering name d v → LaterInFile covering name v e → LaterInFile covering name d e

-- A command was answered that put these bytes there, which cover others: a crash leaves them, or what a later holder put there, which covers them.
pub record AnsweredInFile (covering : Covering) (name : List ℕ) (d : Disk) (new bytes : List ℕ) : Type 0 where
  pub laters : List (Option (List ℕ))
  pub left : (left : Option (List ℕ)) → MayLeave d name left → (left ≡ Some new) ⊎ Contains laters left
  pub others : (left : Option (List ℕ)) → Contains laters left → IsCovered covering new left
  pub brought : covering.covers new bytes ≡ true

-- the file is read, and bytes are safe
abbrev pub BeganInFile : Covering → List ℕ → Disk → List ℕ → List ℕ → Type 0
BeganInFile covering name d read bytes = Reads d name (Some read) × SafeInFile covering name d bytes

-- what was read covers them
abbrev pub ReadInFile : Covering → Disk → List ℕ → List ℕ → Type 0
ReadInFile covering d read bytes = covering.covers read bytes ≡ true

-- files are homes
abbrev pub FilesKeep : Type 0
FilesKeep =
    (covering : Covering) (name : List ℕ) →
    Keeps {M = Disk} (LaterInFile covering name) (SafeInFile covering name) (AnsweredInFile covering name) (BeganInFile covering name) (ReadInFile covering)

-- The file that a command makes covers the one that it reads, if it is read as what the command makes.
abbrev pub Covers : {Y : Type 0} → Covering → (Replica → Made Y) → Type 0
Covers {Y = Y} covering command =
    (old new : Replica) (answer : Y) → held_in (file_of old) ≡ Ok old → command old ≡ Ok (answer, new) → held_in (file_of new) ≡ Ok (as_held new) →
    covering.covers (file_of new) (file_of old) ≡ true

-- Each moment of such a command, from whatever disk it took the lock on, is one of those.
abbrev pub KeepsHome : {Y : Type 0} → (Replica → Made Y) → Type 0
KeepsHome command =
    (covering : Covering) (lock name : List ℕ) (before after : List Event) → Covers covering command →
    (told : BeforeOrAfterThroughout command lock name before after) (laters : List (Option (List ℕ))) (d e : Disk) →
    Moment lock name laters told.0 d e → OthersCover covering name laters d → LaterInFile covering name d e
