-- Of a command that takes the lock and replaces the file, and of one that reads the file first.
use Rattle.std.specs.Prelude.{◌≡◌, ◌⊎◌, ℕ, List, ◌++◌, Option, Some, Contains}
use Rattle.file_protocol.specs.Event.{Event}
use Rattle.file_protocol.specs.Disk.{Disk, MayLeave, MayShow, Reads}
use Rattle.file_protocol.specs.Safe.{Run, Moment, IsHeld, TakesLock, StaysOld, OldOrNew}

-- A crash at any moment between two histories, from whatever disk, leaves what a crash could leave before, or the new bytes, or what
-- others put there.
abbrev pub OldOrNewThroughout : List ℕ → List ℕ → List ℕ → List Event → List Event → Type 0
OldOrNewThroughout lock name new before after =
    (calls : List Event) × (after ≡ calls ++ before)
    × ((laters : List (Option (List ℕ))) (d e : Disk) → Moment lock name laters calls d e
    → (c : Option (List ℕ)) → MayLeave e name c → MayLeave d name c ⊎ (c ≡ Some new) ⊎ Contains laters c)

-- Taking the lock and then replacing the file is one such whole.
abbrev pub HoldingThenReplacing : Type 0
HoldingThenReplacing =
    (lock name new : List ℕ) (before held after : List Event) →
    TakesLock lock name before held → StaysOld lock name before held → OldOrNew lock name new held after →
    OldOrNewThroughout lock name new before after

-- A crash at any moment between two histories leaves what a crash could leave before, or, where the file read as the old bytes when
-- the lock was had, the new ones; or what a later holder of the lock put there.
abbrev pub OldOrChanged : List ℕ → List ℕ → List ℕ → List ℕ → List Event → List Event → Type 0
OldOrChanged lock name old new before after =
    (calls : List Event) × (after ≡ calls ++ before)
    × ((laters : List (Option (List ℕ))) (d e : Disk) → IsHeld lock name d → Moment lock name laters calls d e
    → (c : Option (List ℕ)) → MayLeave e name c → MayLeave d name c ⊎ ((c ≡ Some new) × Reads d name (Some old)) ⊎ Contains laters c)

-- After these calls a crash leaves the new bytes, or what a later holder of the lock put there, and the file had the old ones when the
-- lock was had.
abbrev pub IsChanged : List ℕ → List ℕ → List ℕ → List ℕ → List Event → List Event → Type 0
IsChanged lock name old new before after =
    (calls : List Event) × (after ≡ calls ++ before)
    × ((laters : List (Option (List ℕ))) (d e : Disk) → IsHeld lock name d → Run lock name laters calls d e
    → Reads d name (Some old) × ((c : Option (List ℕ)) → MayLeave e name c → (c ≡ Some new) ⊎ Contains laters c))

-- After these calls each process reads the new bytes, or what a later holder of the lock put there, and the file had the old ones when
-- the lock was had.
abbrev pub IsChangedInPlace : List ℕ → List ℕ → List ℕ → List ℕ → List Event → List Event → Type 0
IsChangedInPlace lock name old new before after =
    (calls : List Event) × (after ≡ calls ++ before)
    × ((laters : List (Option (List ℕ))) (d e : Disk) → IsHeld lock name d → Run lock name laters calls d e
    → Reads d name (Some old) × ((c : Option (List ℕ)) → MayShow e name c → (c ≡ Some new) ⊎ Contains laters c))

-- After these calls a crash leaves what it could leave before, or what a later holder of the lock put there, and the file had these
-- bytes when the lock was had.
abbrev pub IsUnchanged : List ℕ → List ℕ → List ℕ → List Event → List Event → Type 0
IsUnchanged lock name old before after =
    (calls : List Event) × (after ≡ calls ++ before)
    × ((laters : List (Option (List ℕ))) (d e : Disk) → IsHeld lock name d → Run lock name laters calls d e
    → Reads d name (Some old) × ((c : Option (List ℕ)) → MayLeave e name c → MayLeave d name c ⊎ Contains laters c))

-- After these calls a crash leaves what the file had when the lock was had, or what a later holder of the lock put there.
abbrev pub StaysOnDisk : List ℕ → List ℕ → List Event → List Event → Type 0
StaysOnDisk lock name before after =
    (calls : List Event) × (after ≡ calls ++ before)
    × ((laters : List (Option (List ℕ))) (d e : Disk) → IsHeld lock name d → Run lock name laters calls d e
    → (old : List ℕ) → Reads d name (Some old) → (c : Option (List ℕ)) → MayLeave e name c → (c ≡ Some old) ⊎ Contains laters c)

-- After these calls a crash leaves these bytes, or what a later holder of the lock put there, and the file had them when the lock was
-- had.
abbrev pub IsOnDisk : List ℕ → List ℕ → List ℕ → List Event → List Event → Type 0
IsOnDisk lock name old before after =
    (calls : List Event) × (after ≡ calls ++ before)
    × ((laters : List (Option (List ℕ))) (d e : Disk) → IsHeld lock name d → Run lock name laters calls d e
    → Reads d name (Some old) × ((c : Option (List ℕ)) → MayLeave e name c → (c ≡ Some old) ⊎ Contains laters c))
