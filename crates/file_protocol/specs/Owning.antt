-- What this process has of a lock, by its calls, and which calls only its owner may make.
use Rattle.std.specs.Prelude.{◌≡◌, ◌&&◌, ℕ, Bool, true, false, List, [], ◌∷◌, ◌++◌, bytes_eq}
use Rattle.file_protocol.specs.Event.{Event, Opened, Locked, Compared, Emptied, Wrote, Synced, Renamed, Removed}

-- what this process has of a lock
pub data Grip : Type 0 where
  -- it does not have the lock of the file that it opened last
  NoLock : Grip
  -- it has that, and the lock's name may lead to another file
  SomeLock : Grip
  -- it has that, and the lock's name leads to that file
  OwnLock : Grip

-- after the lock of the open file was got
abbrev pub got : Grip → Grip
got NoLock = SomeLock
got SomeLock = SomeLock
got OwnLock = OwnLock

-- after the open file was compared with what has the lock's name, by whether they are the same
abbrev pub found : Bool → Grip → Grip
found true SomeLock = OwnLock
found same grip = grip

-- after a name was removed, or a file renamed
abbrev pub lost : Grip → Grip
lost NoLock = NoLock
lost SomeLock = SomeLock
lost OwnLock = SomeLock

-- after a call
abbrev pub next_grip : List ℕ → Event → Grip → Grip
next_grip lock (Opened n made) grip = NoLock
next_grip lock (Locked true) grip = got grip
next_grip lock (Locked false) grip = grip
next_grip lock (Compared n same) grip = found (same && bytes_eq n lock) grip
next_grip lock (Renamed from to ok) grip = lost grip
next_grip lock (Removed n ok) grip = lost grip
next_grip lock call grip = grip

-- The open file is changed or renamed, and a name is removed, only by who has the lock that the lock's name leads to.
abbrev pub IsOwners : Event → Grip → Type 0
IsOwners (Emptied ok) grip = grip ≡ OwnLock
IsOwners (Wrote bytes taken) grip = grip ≡ OwnLock
IsOwners (Synced ok) grip = grip ≡ OwnLock
IsOwners (Renamed from to ok) grip = grip ≡ OwnLock
IsOwners (Removed n ok) grip = grip ≡ OwnLock
IsOwners call grip = Unit {0}

-- after these calls, of which the newest comes first
abbrev pub grip_after : List ℕ → Grip → List Event → Grip
grip_after lock grip [] = grip
grip_after lock grip (call ∷ earlier) = next_grip lock call (grip_after lock grip earlier)

-- each of these calls is one that the process may make
abbrev pub AllOwners : List ℕ → Grip → List Event → Type 0
AllOwners lock grip [] = Unit {0}
AllOwners lock grip (call ∷ earlier) = IsOwners call (grip_after lock grip earlier) × AllOwners lock grip earlier

-- So is each call between two histories, and they lead from what the process has of the lock first to what it has then.
abbrev pub Owns : List ℕ → List Event → Grip → List Event → Grip → Type 0
Owns lock before grip after then =
    (calls : List Event) × (after ≡ calls ++ before) × AllOwners lock grip calls × (grip_after lock grip calls ≡ then)

-- The same, whatever the process has of the lock first, and whatever then.
abbrev pub OwnsAll : List ℕ → List Event → List Event → Type 0
OwnsAll lock before after = (grip : Grip) → (then : Grip) × Owns lock before grip after then

-- At the end it has the lock, whatever it had first.
abbrev pub GetsLock : List ℕ → List Event → List Event → Type 0
GetsLock lock before after = (grip : Grip) → Owns lock before grip after OwnLock

-- The lock is had first, and given back at the end: its file was renamed, or its removal was asked.
abbrev pub GivesBack : List ℕ → List Event → List Event → Type 0
GivesBack lock before after = Owns lock before OwnLock after SomeLock
