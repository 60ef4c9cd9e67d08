-- What a crash at any moment leaves, while other processes work.
use Rattle.std.specs.Prelude.{◌≡◌, ◌⊎◌, ℕ, true, List, [], ◌∷◌, ◌++◌, Option, Some, None, Contains}
use Rattle.file_protocol.specs.Event.{Event, Opened, Renamed, Removed, unanswered}
use Rattle.file_protocol.specs.Disk.{Disk, MayName, MayHold, MayLeave, MayShow, Reads, IsApart, Takes}

-- this process has the lock of the file that has the lock's name
pub record HasLock (lock : List ℕ) (d : Disk) : Type 0 where
  pub locked : d.is_locked ≡ true
  pub named : d.names lock ≡ Some d.mine

-- what others leave alone while this process has the lock
pub record LeavesAlone (lock name : List ℕ) (d e : Disk) : Type 0 where
  pub leads : e.names lock ≡ d.names lock
  pub bytes : e.contents d.mine ≡ d.contents d.mine
  pub synced : d.is_synced d.mine ≡ true → e.is_synced d.mine ≡ true
  pub old : (c : Option (List ℕ)) → MayLeave e name c → MayLeave d name c
  pub reads : (c : Option (List ℕ)) → Reads e name c → Reads d name c
  pub apart : IsApart d name d.mine → IsApart e name d.mine

-- What each that keeps to the protocol leaves so: the file under the lock's name is one that no crash leaves under the file's.
abbrev pub IsKept : List ℕ → List ℕ → Disk → Type 0
IsKept lock name d = (file : ℕ) → d.names lock ≡ Some file → IsApart d name file

-- What others do between two calls. `laters` is what they put in the file's place, who have the lock after this process.
pub record Others (lock name : List ℕ) (laters : List (Option (List ℕ))) (d e : Disk) : Type 0 where
  pub mine : e.mine ≡ d.mine
  pub place : e.place ≡ d.place
  pub clean : e.is_clean ≡ d.is_clean
  pub locked : e.is_locked ≡ d.is_locked
  pub kept : IsKept lock name d → IsKept lock name e
  pub left : (c : Option (List ℕ)) → MayLeave e name c → MayLeave d name c ⊎ Contains laters c
  pub shown : (c : Option (List ℕ)) → MayShow e name c → MayShow d name c ⊎ Contains laters c
  pub held : HasLock lock d → LeavesAlone lock name d e

-- the calls, with what others do between them, take d to e
abbrev pub Run : List ℕ → List ℕ → List (Option (List ℕ)) → List Event → Disk → Disk → Type 0
Run lock name laters [] d e = Others lock name laters d e
Run lock name laters (call ∷ earlier) d e =
    (v : Disk) × (w : Disk) × Run lock name laters earlier d v × Takes call v w × Others lock name laters w e

-- The disk is e at some moment of the run: after it, during the last call, or at some moment before that call.
abbrev pub Moment : List ℕ → List ℕ → List (Option (List ℕ)) → List Event → Disk → Disk → Type 0
Moment lock name laters [] d e = Others lock name laters d e
Moment lock name laters (call ∷ earlier) d e =
    Run lock name laters (call ∷ earlier) d e
    ⊎ ((v : Disk) × (w : Disk) × Run lock name laters earlier d v × Takes (unanswered call) v w × Others lock name laters w e)
    ⊎ Moment lock name laters earlier d e

-- this process has the lock, has written nothing to its file, and no crash leaves the file under the lock's name as the one that is to be replaced
pub record IsHeld (lock name : List ℕ) (d : Disk) : Type 0 where
  pub has : HasLock lock d
  pub place : d.place ≡ 0
  pub apart : IsApart d name d.mine

-- A crash at any moment between two histories leaves what a crash could leave before, or the new bytes, or what a later holder of the lock put there.
abbrev pub OldOrNew : List ℕ → List ℕ → List ℕ → List Event → List Event → Type 0
OldOrNew lock name new before after =
    (calls : List Event) × (after ≡ calls ++ before)
    × ((laters : List (Option (List ℕ))) (d e : Disk) → IsHeld lock name d → Moment lock name laters calls d e
    → (c : Option (List ℕ)) → MayLeave e name c → MayLeave d name c ⊎ (c ≡ Some new) ⊎ Contains laters c)

-- After these calls a crash leaves the new bytes, or what a later holder of the lock put there.
abbrev pub IsNew : List ℕ → List ℕ → List ℕ → List Event → List Event → Type 0
IsNew lock name new before after =
    (calls : List Event) × (after ≡ calls ++ before)
    × ((laters : List (Option (List ℕ))) (d e : Disk) → IsHeld lock name d → Run lock name laters calls d e
    → (c : Option (List ℕ)) → MayLeave e name c → (c ≡ Some new) ⊎ Contains laters c)

-- After these calls a crash leaves what it could leave before, or what a later holder of the lock put there.
abbrev pub IsOld : List ℕ → List ℕ → List Event → List Event → Type 0
IsOld lock name before after =
    (calls : List Event) × (after ≡ calls ++ before)
    × ((laters : List (Option (List ℕ))) (d e : Disk) → IsHeld lock name d → Run lock name laters calls d e
    → (c : Option (List ℕ)) → MayLeave e name c → MayLeave d name c ⊎ Contains laters c)

-- Such calls, from whatever disk, end with the lock, whatever others do meanwhile.
abbrev pub TakesLock : List ℕ → List ℕ → List Event → List Event → Type 0
TakesLock lock name before after =
    (calls : List Event) × (after ≡ calls ++ before)
    × ((laters : List (Option (List ℕ))) (d e : Disk) → Run lock name laters calls d e → IsHeld lock name e)

-- A crash at any moment between two histories leaves what it could leave before, or what others put there.
abbrev pub StaysOld : List ℕ → List ℕ → List Event → List Event → Type 0
StaysOld lock name before after =
    (calls : List Event) × (after ≡ calls ++ before)
    × ((laters : List (Option (List ℕ))) (d e : Disk) → Moment lock name laters calls d e
    → (c : Option (List ℕ)) → MayLeave e name c → MayLeave d name c ⊎ Contains laters c)

-- A call opens, renames and removes the lock alone, and renames it to the file alone.
abbrev pub IsOurs : List ℕ → List ℕ → Event → Type 0
IsOurs lock name (Opened n made) = n ≡ lock
IsOurs lock name (Renamed from to ok) = (from ≡ lock) × (to ≡ name)
IsOurs lock name (Removed n ok) = n ≡ lock
IsOurs lock name call = Unit {0}

-- all of these calls do
abbrev pub AllOurs : List ℕ → List ℕ → List Event → Type 0
AllOurs lock name [] = Unit {0}
AllOurs lock name (call ∷ calls) = IsOurs lock name call × AllOurs lock name calls

-- so all of them do
abbrev pub OnlyOurs : List ℕ → List ℕ → List Event → List Event → Type 0
OnlyOurs lock name before after = (calls : List Event) × (after ≡ calls ++ before) × AllOurs lock name calls

-- At each moment the disk is kept, where it was before.
abbrev pub StaysKept : List ℕ → List ℕ → List Event → List Event → Type 0
StaysKept lock name before after =
    (calls : List Event) × (after ≡ calls ++ before)
    × ((laters : List (Option (List ℕ))) (d e : Disk) → IsKept lock name d → Moment lock name laters calls d e → IsKept lock name e)

-- After a loss of power the disk is e: some names that it may leave, and in each file what it may hold.
pub record Restarts (d e : Disk) : Type 0 where
  pub names : MayName d e.names
  pub synced : e.synced ≡ e.names
  pub changes : e.changes ≡ []
  pub contents : (file : ℕ) → MayHold d file (e.contents file)
  pub on_disk : (file : ℕ) → e.is_synced file ≡ true

-- After these calls the name leads to the new bytes, or to those that a later holder of the lock put there: so each process reads, and so it stays where no power is lost.
abbrev pub IsInPlace : List ℕ → List ℕ → List ℕ → List Event → List Event → Type 0
IsInPlace lock name new before after =
    (calls : List Event) × (after ≡ calls ++ before)
    × ((laters : List (Option (List ℕ))) (d e : Disk) → IsHeld lock name d → Run lock name laters calls d e
    → (c : Option (List ℕ)) → MayShow e name c → (c ≡ Some new) ⊎ Contains laters c)

-- the calls take d to e, and nobody else does anything
abbrev pub RunAlone : List Event → Disk → Disk → Type 0
RunAlone [] d e = e ≡ d
RunAlone (call ∷ earlier) d e = (v : Disk) × RunAlone earlier d v × Takes call v e

-- After these calls the lock's name leads to no file, where nobody else made one.
abbrev pub LeavesNoLock : List ℕ → List Event → List Event → Type 0
LeavesNoLock lock before after =
    (calls : List Event) × (after ≡ calls ++ before) × ((d e : Disk) → RunAlone calls d e → e.names lock ≡ None)
