-- Any number of processes that take the lock of one file, replace the file and end at any moment: none touches what another has locked.
use Rattle.std.specs.Prelude.{◌≡◌, ◌≢◌, ℕ, Bool, true, false, List, [], ◌∷◌, Option, Some}
use Rattle.file_protocol.specs.Event.{Event, Locked, unanswered}
use Rattle.file_protocol.specs.Disk.{Disk, Takes}
use Rattle.file_protocol.specs.Owning.{NoLock, OwnLock, SomeLock, IsOwners, grip_after, Owns, OwnsAll, GetsLock, GivesBack}
use Rattle.file_protocol.specs.Safe.{HasLock, LeavesAlone, IsOurs}

-- what a process has open, and whether it has its lock
pub record Handle : Type 0 where
  pub mine : ℕ
  pub place : ℕ
  pub is_clean : Bool
  pub is_locked : Bool

-- the disk, as the process of a handle sees it
abbrev pub seen_by : Handle → Disk → Disk
seen_by handle d = record d { mine = handle.mine; place = handle.place; is_clean = handle.is_clean; is_locked = handle.is_locked }

-- a disk that processes share, the handle of each, and its calls since it began, the newest first
pub record World : Type 0 where
  pub disk : Disk
  pub handle : ℕ → Handle
  pub calls : ℕ → List Event

-- The others are as they were.
pub record Spares (process : ℕ) (w x : World) : Type 0 where
  pub handles : (other : ℕ) → other ≢ process → x.handle other ≡ w.handle other
  pub calls : (other : ℕ) → other ≢ process → x.calls other ≡ w.calls other

-- A process makes a call on the file's lock or on the file, as the clauses of its functions say. It gets a lock only if no other process has
-- the lock of that file.
pub record Makes (lock name : List ℕ) (process : ℕ) (call : Event) (w x : World) : Type 0 where
  pub takes : Takes call (seen_by (w.handle process) w.disk) (seen_by (x.handle process) x.disk)
  pub notes : x.calls process ≡ call ∷ w.calls process
  pub spares : Spares process w x
  pub free : call ≡ Locked true → (other : ℕ) → other ≢ process → (w.handle other).is_locked ≡ true → (w.handle other).mine ≢ (w.handle process).mine
  pub ours : IsOurs lock name call
  pub own : IsOwners call (grip_after lock NoLock (w.calls process))

-- A process ends or is killed, and another one may have its number later. Its lock is free then.
pub record Endings (process : ℕ) (w x : World) : Type 0 where
  pub disk : x.disk ≡ w.disk
  pub spares : Spares process w x
  pub calls : x.calls process ≡ []
  pub unlocked : (x.handle process).is_locked ≡ false

-- what happens
pub data Happening : Type 0 where
  By : (process : ℕ) (call : Event) → Happening
  Ends : (process : ℕ) → Happening

-- what happens takes w to x: a process makes a call, or ends, and then has no lock
abbrev pub Happens : List ℕ → List ℕ → Happening → World → World → Type 0
Happens lock name (By process call) w x = Makes lock name process call w x
Happens lock name (Ends process) w x = Endings process w x

-- what happened, the newest first, takes w to x
abbrev pub Interleaves : List ℕ → List ℕ → List Happening → World → World → Type 0
Interleaves lock name [] w x = x ≡ w
Interleaves lock name (happening ∷ earlier) w x = (v : World) × Interleaves lock name earlier w v × Happens lock name happening v x

-- no process runs
pub record IsQuiet (w : World) : Type 0 where
  pub calls : (process : ℕ) → w.calls process ≡ []
  pub unlocked : (process : ℕ) → (w.handle process).is_locked ≡ false

-- At every moment of such processes, whatever call one of them makes, it leaves alone what another one has locked.
abbrev pub OwnersLeaveAlone : Type 0
OwnersLeaveAlone =
    (lock name : List ℕ) (happened : List Happening) (w x y : World) (process other : ℕ) (call : Event) →
    IsQuiet w → Interleaves lock name happened w x → Makes lock name other call x y → process ≢ other →
    HasLock lock (seen_by (x.handle process) x.disk) → LeavesAlone lock name (seen_by (x.handle process) x.disk) (seen_by (y.handle process) y.disk)

-- the laws of owners of a lock
pub record OwnerLaws : Type 0 where
  pub alone : OwnersLeaveAlone
  -- A command that takes the lock, and then gives it back, makes such calls, whatever it had before.
  pub commands : (lock : List ℕ) (before held after : List Event) → GetsLock lock before held → GivesBack lock held after → OwnsAll lock before after
  -- so does one that is killed inside a call
  pub killed : (call : Event) → IsOwners call OwnLock → IsOwners (unanswered call) OwnLock
