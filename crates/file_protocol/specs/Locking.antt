-- The calls by which a lock is had or given back, and a file is read.
use Rattle.std.specs.Prelude.{◌≡◌, ℕ, List, [], ◌∷◌, ◌++◌}
use Rattle.file_protocol.specs.Event.{Event, Opened, Locked, Compared, Removed, Settled, SyncedFile, Read}

-- A call opens, locks, compares or removes the lock's file alone, or reads a file.
abbrev pub IsLocking : List ℕ → Event → Type 0
IsLocking lock (Opened n made) = n ≡ lock
IsLocking lock (Locked got) = Unit {0}
IsLocking lock (Compared n same) = Unit {0}
IsLocking lock (Removed n ok) = n ≡ lock
IsLocking lock (Read n answer) = Unit {0}
IsLocking lock call = ⊥

-- all of these calls do
abbrev pub AllLocking : List ℕ → List Event → Type 0
AllLocking lock [] = Unit {0}
AllLocking lock (call ∷ calls) = IsLocking lock call × AllLocking lock calls

-- so do all calls between two histories
abbrev pub OnlyLocks : List ℕ → List Event → List Event → Type 0
OnlyLocks lock before after = (calls : List Event) × (after ≡ calls ++ before) × AllLocking lock calls

-- A call syncs a file or the folder, or is one of these.
abbrev pub IsKeeping : List ℕ → Event → Type 0
IsKeeping lock (Settled ok) = Unit {0}
IsKeeping lock (SyncedFile n ok) = Unit {0}
IsKeeping lock call = IsLocking lock call

-- all of these calls do
abbrev pub AllKeeping : List ℕ → List Event → Type 0
AllKeeping lock [] = Unit {0}
AllKeeping lock (call ∷ calls) = IsKeeping lock call × AllKeeping lock calls

-- so do all calls between two histories
abbrev pub OnlyKeeps : List ℕ → List Event → List Event → Type 0
OnlyKeeps lock before after = (calls : List Event) × (after ≡ calls ++ before) × AllKeeping lock calls
