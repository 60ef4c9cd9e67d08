-- The laws of a folder of parts.
use Rattle.std.specs.Prelude.{◌≡◌, ◌≢◌, ◌⊎◌, ℕ, true, List, Some}
use Rattle.folder_model.specs.Call.{Call, Exclusive, lock_of, unanswered}
use Rattle.folder_model.specs.Disk.{Among, Disk, Settles}
use Rattle.folder_model.specs.Parts.{Parts, IsOrder, IsThere, IsHeld, IsSafe}
use Rattle.folder_model.specs.Turn.{InTurn, Placed, stage_of, Gave, listing_of, HasRead, HasReadAll, HasReadSince, HasWatched, HasPlaced, IsGone}
use Rattle.folder_model.specs.World.{World}
use Rattle.folder_model.specs.Run.{Event, Run, FreeRun, KeepsTurn, AtSome, SinceLoss, BeforeListing, AreDistinct, HasPut, IsQuiet}

-- a run of processes that keep to the protocol, from a folder that no process uses
pub record IsFair (parts : Parts) (events : List Event) (d e : World) (run : Run parts events d e) : Type 0 where
  pub order : IsOrder parts
  pub quiet : IsQuiet d
  pub distinct : AreDistinct parts events d e run

-- What was safe at some moment is safe for ever.
abbrev pub SafeForEver : Type 0
SafeForEver =
    (parts : Parts) (events : List Event) (d e : World) (run : Run parts events d e) → IsFair parts events d e run →
    (bytes : List ℕ) → AtSome (λ w. IsSafe parts w.disk bytes) parts events d e run → IsSafe parts e.disk bytes

-- What is safe is held now, whatever was lost before.
abbrev pub SafeIsHeld : Type 0
SafeIsHeld = (parts : Parts) (d : Disk) (bytes : List ℕ) → IsSafe parts d bytes → IsHeld parts d bytes

-- What a process has put at some moment is safe for ever.
abbrev pub PutIsSafe : Type 0
PutIsSafe =
    (parts : Parts) (events : List Event) (d e : World) (run : Run parts events d e) → IsFair parts events d e run →
    (bytes : List ℕ) → AtSome (HasPut parts bytes) parts events d e run → IsSafe parts e.disk bytes

-- Whoever has read all that a listing gave has read a part that covers what any process had put at any moment before that listing.
abbrev pub PutIsRead : Type 0
PutIsRead =
    (parts : Parts) (events : List Event) (d e : World) (run : Run parts events d e) → IsFair parts events d e run →
    (process : ℕ) → HasReadAll parts (e.calls process) →
    (bytes : List ℕ) → BeforeListing (HasPut parts bytes) process parts events d e run →
    (found : List ℕ) × HasReadSince parts found (e.calls process) × (parts.covers found bytes ≡ true)

-- What is held when any process syncs the folder is safe from then on.
abbrev pub SettledIsSafe : Type 0
SettledIsSafe = (parts : Parts) (d e : Disk) → Settles d e → (bytes : List ℕ) → IsHeld parts d bytes → IsSafe parts e bytes

-- What was held at some moment since the last loss of power is held.
abbrev pub HeldUntilLoss : Type 0
HeldUntilLoss =
    (parts : Parts) (events : List Event) (d e : World) (run : Run parts events d e) → IsFair parts events d e run →
    (bytes : List ℕ) → SinceLoss (λ w. IsHeld parts w.disk bytes) parts events d e run → IsHeld parts e.disk bytes

-- Once it is linked, and before the folder is synced, the bytes are held.
abbrev pub PlacedIsHeld : Type 0
PlacedIsHeld =
    (parts : Parts) (events : List Event) (d e : World) (run : Run parts events d e) → IsFair parts events d e run →
    (process : ℕ) (bytes : List ℕ) → stage_of parts (e.calls process) ≡ Placed bytes → IsHeld parts e.disk bytes

-- Who has read all that a listing gave has read each part that was there when it began.
abbrev pub ReadsAll : Type 0
ReadsAll =
    (parts : Parts) (events : List Event) (d e : World) (run : Run parts events d e) → IsFair parts events d e run →
    (process : ℕ) → HasReadAll parts (e.calls process) →
    (bytes : List ℕ) → IsThere parts (e.began process) bytes → HasReadSince parts bytes (e.calls process)

-- It has read a part, too, that covers what was safe at any moment before that listing.
abbrev pub ReadersHave : Type 0
ReadersHave =
    (parts : Parts) (events : List Event) (d e : World) (run : Run parts events d e) → IsFair parts events d e run →
    (process : ℕ) → HasReadAll parts (e.calls process) →
    (bytes : List ℕ) → BeforeListing (λ w. IsSafe parts w.disk bytes) process parts events d e run →
    (found : List ℕ) × HasReadSince parts found (e.calls process) × (parts.covers found bytes ≡ true)

-- One of these names is that of a part that covers the bytes.
abbrev pub Lists : Parts → List (List ℕ) → List ℕ → Type 0
Lists parts names bytes = (found : List ℕ) × Among (parts.name_of found) names × (parts.covers found bytes ≡ true)

-- Whoever has listed the folder was given the name of a part that covers what any process had put at any moment before that listing.
abbrev pub PutIsListed : Type 0
PutIsListed =
    (parts : Parts) (events : List Event) (d e : World) (run : Run parts events d e) → IsFair parts events d e run →
    (process : ℕ) (names : List (List ℕ)) → listing_of (e.calls process) ≡ Gave names →
    (bytes : List ℕ) → BeforeListing (HasPut parts bytes) process parts events d e run → Lists parts names bytes

-- One of these names is that of a part that covers the bytes, and whatever these calls have read under that name is this part.
abbrev pub FindsAmong : Parts → List (List ℕ) → List Call → List ℕ → Type 0
FindsAmong parts names calls bytes =
    (found : List ℕ) × Among (parts.name_of found) names × (parts.covers found bytes ≡ true) × ((read : List ℕ) → HasRead parts read calls → parts.name_of read ≡ parts.name_of found → read ≡ found)

-- The same, and what it has read under that name is this part. So whoever reads under each name that it was given has read a part that covers
-- what was put before.
abbrev pub PutIsFound : Type 0
PutIsFound =
    (parts : Parts) (events : List Event) (d e : World) (run : Run parts events d e) → IsFair parts events d e run →
    (process : ℕ) (names : List (List ℕ)) → listing_of (e.calls process) ≡ Gave names →
    (bytes : List ℕ) → BeforeListing (HasPut parts bytes) process parts events d e run → FindsAmong parts names (e.calls process) bytes

-- So it is of what was safe at any moment before that listing, for whatever reason.
abbrev pub SafeIsFound : Type 0
SafeIsFound =
    (parts : Parts) (events : List Event) (d e : World) (run : Run parts events d e) → IsFair parts events d e run →
    (process : ℕ) (names : List (List ℕ)) → listing_of (e.calls process) ≡ Gave names →
    (bytes : List ℕ) → BeforeListing (λ w. IsSafe parts w.disk bytes) process parts events d e run → FindsAmong parts names (e.calls process) bytes

-- And of what any process has read, and then found gone or replaced, and synced the folder after that, all before that listing.
abbrev pub GoneIsFound : Type 0
GoneIsFound =
    (parts : Parts) (events : List Event) (d e : World) (run : Run parts events d e) → IsFair parts events d e run →
    (process : ℕ) (names : List (List ℕ)) → listing_of (e.calls process) ≡ Gave names →
    (bytes : List ℕ) → BeforeListing (λ w. (other : ℕ) × IsGone parts bytes (w.calls other)) process parts events d e run → FindsAmong parts names (e.calls process) bytes

-- Whoever has listed the folder under the exclusive lock, and has had it since, was given the name of a part that covers what was held at
-- any moment since the last loss of power at which it did not have that lock.
abbrev pub WatchedIsListed : Type 0
WatchedIsListed =
    (parts : Parts) (events : List Event) (d e : World) (run : Run parts events d e) → IsFair parts events d e run →
    (process : ℕ) (names : List (List ℕ)) → HasWatched names (e.calls process) →
    (bytes : List ℕ) → SinceLoss (λ w. (lock_of (w.calls process) ≢ Some Exclusive) × IsHeld parts w.disk bytes) parts events d e run → Lists parts names bytes

-- Of two processes that each gave a part its name under the exclusive lock, which it had since its listing began, one was given the name
-- of a part that covers the other's, if no power was lost since the first did.
abbrev pub PlacedApart : Type 0
PlacedApart =
    (parts : Parts) (events : List Event) (d e : World) (run : Run parts events d e) → IsFair parts events d e run →
    (p q : ℕ) → p ≢ q → (a b : List ℕ) (seen have : List (List ℕ)) →
    SinceLoss (λ w. HasPlaced parts a seen (w.calls p)) parts events d e run → SinceLoss (λ w. HasPlaced parts b have (w.calls q)) parts events d e run →
    Lists parts have a ⊎ Lists parts seen b

-- What a process has read, and then found gone or replaced, and synced the folder after that, is safe for ever: another part covers it.
abbrev pub GoneIsSafe : Type 0
GoneIsSafe =
    (parts : Parts) (events : List Event) (d e : World) (run : Run parts events d e) → IsFair parts events d e run →
    (process : ℕ) (bytes : List ℕ) → AtSome (λ w. IsGone parts bytes (w.calls process)) parts events d e run → IsSafe parts e.disk bytes

-- A call that is in turn is so before it is answered: a process may be killed in any call.
abbrev pub KilledInTurn : Type 0
KilledInTurn = (parts : Parts) (calls : List Call) (call : Call) → InTurn parts calls call → InTurn parts calls (unanswered call)

-- Processes whose calls are in turn at each moment make a run.
abbrev pub TurnsRun : Type 0
TurnsRun = (parts : Parts) (events : List Event) (d e : World) (run : FreeRun parts events d e) → KeepsTurn parts events d e run → Run parts events d e

-- the laws of a folder of parts
pub record FolderHistoryLaws : Type 0 where
  pub put : PutIsSafe
  pub had : PutIsRead
  pub safe : SafeForEver
  pub held : SafeIsHeld
  pub settled : SettledIsSafe
  pub placed : PlacedIsHeld
  pub until : HeldUntilLoss
  pub reads : ReadsAll
  pub have : ReadersHave
  pub killed : KilledInTurn
  pub runs : TurnsRun
  pub listed : PutIsListed
  pub found : PutIsFound
  pub watched : WatchedIsListed
  pub apart : PlacedApart
  pub gone : GoneIsSafe
  pub safe_found : SafeIsFound
  pub gone_found : GoneIsFound
