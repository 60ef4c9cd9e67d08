-- The calls that a process makes on a folder, each with its answer. The newest comes first in a history.
use Rattle.std.specs.Prelude.{ℕ, Bool, true, false, List, [], ◌∷◌, Option, Some, None}

-- how a folder is locked
pub data Kind : Type 0 where
  -- by any number of processes, to list it
  Shared : Kind
  -- by one, to remove parts
  Exclusive : Kind

-- what came of a link
pub data Linking : Type 0 where
  Done : Linking
  -- another file has the name
  Taken : Linking
  Failed : Linking

-- a call, with its answer
pub data Call : Type 0 where
  -- a new file was made under a name that nothing had, and is the open file from now on
  Made : (name : List ℕ) (ok : Bool) → Call
  -- these bytes were added to the open file
  Wrote : (bytes : List ℕ) (ok : Bool) → Call
  -- the open file was synced
  Synced : (ok : Bool) → Call
  -- the file of one name was given a second name
  Linked : (from to : List ℕ) (answer : Linking) → Call
  Removed : (name : List ℕ) (ok : Bool) → Call
  -- the folder was synced
  Settled : (ok : Bool) → Call
  -- the folder was locked
  Locked : (kind : Kind) (ok : Bool) → Call
  Unlocked : Call
  -- a listing of the folder began
  Began : Call
  -- it gave these names, or failed
  Listed : (answer : Option (List (List ℕ))) → Call
  -- what a name had: no file, or one with these bytes, which is the open file from now on; or the read failed
  Read : (name : List ℕ) (answer : Option (Option (List ℕ))) → Call
  -- a name was looked at: its file was opened to be looked into, or it was asked what has the name; nothing of what was seen counts
  Looked : (name : List ℕ) (ok : Bool) → Call

-- the same call, begun and not yet answered: if a process is killed meanwhile it is the last one
abbrev pub unanswered : Call → Call
unanswered (Made name ok) = Made name false
unanswered (Wrote bytes ok) = Wrote bytes false
unanswered (Synced ok) = Synced false
unanswered (Linked from to answer) = Linked from to Failed
unanswered (Removed name ok) = Removed name false
unanswered (Settled ok) = Settled false
unanswered (Locked kind ok) = Locked kind false
unanswered Unlocked = Unlocked
unanswered Began = Began
unanswered (Listed answer) = Listed None
unanswered (Read name answer) = Read name None
unanswered (Looked name ok) = Looked name false

-- the lock of the folder that a process has after a call, by the one that it had before; one that it did not get is none
abbrev pub lock_after : Call → Option Kind → Option Kind
lock_after (Locked kind true) lock = Some kind
lock_after (Locked kind false) lock = None
lock_after Unlocked lock = None
lock_after call lock = lock

-- the lock of the folder that a process has, by its calls
abbrev pub lock_of : List Call → Option Kind
lock_of [] = None
lock_of (call ∷ earlier) = lock_after call (lock_of earlier)

-- whether no sync of the folder has failed, by a process's calls since it began
abbrev pub can_settle : List Call → Bool
can_settle [] = true
can_settle (Settled false ∷ earlier) = false
can_settle (call ∷ earlier) = can_settle earlier

-- whether no write or sync of the open file has failed since it was opened, by a call and what was before
abbrev pub clean_after : Call → Bool → Bool
clean_after (Made name true) clean = true
clean_after (Wrote bytes false) clean = false
clean_after (Synced false) clean = false
clean_after (Read name (Some (Some bytes))) clean = true
clean_after call clean = clean

-- the same, by all calls
abbrev pub is_clean : List Call → Bool
is_clean [] = false
is_clean (call ∷ earlier) = clean_after call (is_clean earlier)
