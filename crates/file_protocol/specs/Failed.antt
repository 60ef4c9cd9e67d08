-- Calls that failed.
use Rattle.std.specs.Prelude.{◌≡◌, ◌⊎◌, false, List, [], ◌∷◌, ◌++◌, Some, None}
use Rattle.file_protocol.specs.Event.{Event, Opened, Locked, Compared, Emptied, Wrote, Synced, Renamed, Removed, Settled, SyncedFile, Read}

-- The call failed, or did not get the lock. A write that takes nothing has failed.
abbrev pub Fails : Event → Type 0
Fails (Opened name made) = made ≡ None
Fails (Locked got) = got ≡ false
Fails (Compared name same) = ⊥
Fails (Emptied ok) = ok ≡ false
Fails (Wrote bytes (Some taken)) = taken ≡ 0
Fails (Wrote bytes None) = Unit {0}
Fails (Synced ok) = ok ≡ false
Fails (Renamed from to ok) = ok ≡ false
Fails (Removed name ok) = ok ≡ false
Fails (Settled ok) = ok ≡ false
Fails (SyncedFile name ok) = ok ≡ false
Fails (Read name (Some answer)) = ⊥
Fails (Read name None) = Unit {0}

-- one of these calls failed
abbrev pub AnyFails : List Event → Type 0
AnyFails [] = ⊥
AnyFails (call ∷ earlier) = Fails call ⊎ AnyFails earlier

-- one of the calls between two histories failed
abbrev pub HasFailed : List Event → List Event → Type 0
HasFailed before after = (calls : List Event) × (after ≡ calls ++ before) × AnyFails calls
