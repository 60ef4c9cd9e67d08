-- How far the replacing of a file is, by the calls so far. What a phase means of the disk is in the proofs.
use Rattle.std.specs.Prelude.{◌≡◌, ◌≢◌, ◌&&◌, ℕ, Bool, true, false, List, [], ◌∷◌, ◌++◌, take, Option, Some, None, bytes_eq}
use Rattle.file_protocol.specs.Event.{Event, Opened, Locked, Compared, Emptied, Wrote, Synced, Renamed, Removed, Settled, SyncedFile, Read}

-- how far the replacing of a file is
pub data Phase : Type 0 where
  -- the lock is had, and nothing was written to its file
  Holding : Phase
  -- a write or a sync failed: what its file holds isn't known
  Dirty : Phase
  -- it holds these bytes
  Filled : (bytes : List ℕ) → Phase
  -- and they are on the disk
  Ready : (bytes : List ℕ) → Phase
  -- it has taken the place of the file
  InPlace : Phase
  -- and the folder is on the disk
  Stored : Phase
  -- it may have
  Unsure : Phase
  -- it has not: the name is still that of the lock
  Back : Phase
  -- the lock was removed, or may have been, and the file is the old one
  Gone : Phase
  -- the same after a rename that failed
  GoneUnsure : Phase
  -- a call came out of turn
  Bad : Phase

-- after the open file was cut to nothing
abbrev pub emptied : Bool → Phase → Phase
emptied true Holding = Filled []
emptied false Holding = Holding
emptied ok p = Bad

-- after a write of these bytes, of which a number were taken
abbrev pub wrote : List ℕ → Option ℕ → Phase → Phase
wrote bytes (Some n) (Filled c) = Filled (c ++ take n bytes)
wrote bytes None (Filled c) = Dirty
wrote bytes taken p = Bad

-- after the open file was synced
abbrev pub synced : Bool → Phase → Phase
synced true (Filled c) = Ready c
synced false (Filled c) = Dirty
synced ok p = Bad

-- after a rename, by whether it was in turn and whether it succeeded
abbrev pub renamed : Bool → Bool → Phase → Phase
renamed true true p = InPlace
renamed true false p = Unsure
renamed false ok p = Bad

-- the lock's file was renamed to the file's name: only when it is ready, with the new bytes
abbrev pub renamed_from : List ℕ → List ℕ → List ℕ → List ℕ → List ℕ → Bool → Phase → Phase
renamed_from lock name new from to ok (Ready c) = renamed (bytes_eq from lock && bytes_eq to name && bytes_eq c new) ok (Ready c)
renamed_from lock name new from to ok p = Bad

-- after a name was removed, by whether it is the lock's
abbrev pub removed : Bool → Phase → Phase
removed true Holding = Gone
removed true Dirty = Gone
removed true (Filled c) = Gone
removed true (Ready c) = Gone
removed true Back = GoneUnsure
removed same p = Bad

-- after the folder was synced
abbrev pub settled : Bool → Phase → Phase
settled false p = p
settled true InPlace = Stored
settled true p = Bad

-- after the open file was compared with what has the lock's name, by whether they are the same
abbrev pub compared : Bool → Phase → Phase
compared true Unsure = Back
compared same p = p

-- after a call
abbrev pub next : List ℕ → List ℕ → List ℕ → Event → Phase → Phase
next lock name new (Opened n made) p = Bad
next lock name new (Locked got) p = Bad
next lock name new (Compared n same) p = compared (same && bytes_eq n lock) p
next lock name new (Emptied ok) p = emptied ok p
next lock name new (Wrote bytes taken) p = wrote bytes taken p
next lock name new (Synced ok) p = synced ok p
next lock name new (Renamed from to ok) p = renamed_from lock name new from to ok p
next lock name new (Removed n ok) p = removed (bytes_eq n lock) p
next lock name new (Settled ok) p = settled ok p
next lock name new (SyncedFile n ok) p = Bad
next lock name new (Read n answer) p = p

-- after these calls, of which the newest comes first
abbrev pub phase_after : List ℕ → List ℕ → List ℕ → Phase → List Event → Phase
phase_after lock name new p [] = p
phase_after lock name new p (call ∷ earlier) = next lock name new call (phase_after lock name new p earlier)

-- the calls between two histories lead from one phase to the other
abbrev pub Goes : List ℕ → List ℕ → List ℕ → List Event → Phase → List Event → Phase → Type 0
Goes lock name new before p after q =
    (calls : List Event) × (after ≡ calls ++ before) × (phase_after lock name new p calls ≡ q)

-- the same to a phase in which the lock may be removed, with the file as it was
abbrev pub GoesBack : List ℕ → List ℕ → List ℕ → List Event → Phase → List Event → Type 0
GoesBack lock name new before p after = (q : Phase) × Goes lock name new before p after q × (removed true q ≡ Gone)

-- the same to a phase that is in turn
abbrev pub GoesInTurn : List ℕ → List ℕ → List ℕ → List Event → Phase → List Event → Type 0
GoesInTurn lock name new before p after = (q : Phase) × Goes lock name new before p after q × (q ≢ Bad)
