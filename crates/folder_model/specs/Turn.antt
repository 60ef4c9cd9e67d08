-- The protocol: which calls a process may make next, by its own calls so far and by nothing else.
use Rattle.std.specs.Prelude.{◌≡◌, ◌≢◌, ◌⊎◌, ℕ, Bool, true, false, List, [], ◌∷◌, ◌++◌, Option, Some, None, if◌then◌else◌, bytes_eq}
use Rattle.folder_model.specs.Call.{Call, Made, Wrote, Synced, Linked, Removed, Settled, Locked, Unlocked, Began, Listed, Read, Looked, Kind, Exclusive, Linking, Done, Taken, lock_of, can_settle}
use Rattle.folder_model.specs.Disk.{Among}
use Rattle.folder_model.specs.Parts.{Parts, IsNoPart}

-- how far a process is with its open file
pub data Stage : Type 0 where
  -- it knows nothing of it
  Idle : Stage
  -- it made it under this name, and wrote these bytes
  Filled : (name bytes : List ℕ) → Stage
  -- and synced it
  Ready : (name bytes : List ℕ) → Stage
  -- a part with these bytes has its name
  Placed : (bytes : List ℕ) → Stage
  -- and the folder is synced
  Stored : (bytes : List ℕ) → Stage
  -- it has read a part with these bytes
  Seen : (bytes : List ℕ) → Stage
  -- and synced it
  Whole : (bytes : List ℕ) → Stage
  -- and synced the folder, under the exclusive lock, which it had when it read the part and has since
  Guarded : (bytes : List ℕ) → Stage

-- after bytes were added
abbrev pub wrote : List ℕ → Bool → Stage → Stage
wrote bytes true (Filled name filled) = Filled name (filled ++ bytes)
wrote bytes ok stage = Idle

-- after the open file was synced
abbrev pub synced : Bool → Stage → Stage
synced true (Filled name bytes) = Ready name bytes
synced true (Seen bytes) = Whole bytes
synced true stage = stage
synced false stage = Idle

-- after a link
abbrev pub linked : Linking → Stage → Stage
linked Done (Ready name bytes) = Placed bytes
linked Taken stage = stage
linked answer stage = Idle

-- after the folder was synced, by the lock
abbrev pub settled : Bool → Option Kind → Stage → Stage
settled true lock (Placed bytes) = Stored bytes
settled true (Some Exclusive) (Whole bytes) = Guarded bytes
settled true lock (Whole bytes) = Stored bytes
settled true lock stage = stage
settled false lock stage = Idle

-- after the lock was taken or given back: a part that was read may go from then on
abbrev pub unguarded : Stage → Stage
unguarded (Seen bytes) = Idle
unguarded (Whole bytes) = Placed bytes
unguarded (Guarded bytes) = Stored bytes
unguarded stage = stage

-- after a call, by the lock before it
abbrev pub stage_after : Parts → Call → Option Kind → Stage → Stage
stage_after parts (Made name true) lock stage = Filled name []
stage_after parts (Made name false) lock stage = Idle
stage_after parts (Wrote bytes ok) lock stage = wrote bytes ok stage
stage_after parts (Synced ok) lock stage = synced ok stage
stage_after parts (Linked from to answer) lock stage = linked answer stage
stage_after parts (Removed name ok) lock stage = stage
stage_after parts (Settled ok) lock stage = settled ok lock stage
stage_after parts (Locked kind ok) lock stage = unguarded stage
stage_after parts Unlocked lock stage = unguarded stage
stage_after parts Began lock stage = stage
stage_after parts (Listed answer) lock stage = stage
stage_after parts (Read name (Some (Some bytes))) lock stage = if bytes_eq name (parts.name_of bytes) then Seen bytes else Idle
stage_after parts (Read name answer) lock stage = Idle
stage_after parts (Looked name ok) lock stage = stage

-- by all calls
abbrev pub stage_of : Parts → List Call → Stage
stage_of parts [] = Idle
stage_of parts (call ∷ earlier) = stage_after parts call (lock_of earlier) (stage_of parts earlier)

-- The part with these bytes is on the disk, by the calls: its file was synced, and the folder once the file had its name.
abbrev pub IsStored : Parts → List ℕ → List Call → Type 0
IsStored parts bytes calls = (stage_of parts calls ≡ Stored bytes) ⊎ (stage_of parts calls ≡ Guarded bytes)

-- A part with these bytes was read and synced, at some moment.
abbrev pub WasSynced : Parts → List ℕ → List Call → Type 0
WasSynced parts bytes [] = ⊥
WasSynced parts bytes (call ∷ earlier) = (stage_of parts (call ∷ earlier) ≡ Whole bytes) ⊎ WasSynced parts bytes earlier

-- And the folder was synced after that, whatever was done in between: the part is kept.
abbrev pub IsKept : Parts → List ℕ → List Call → Type 0
IsKept parts bytes [] = ⊥
IsKept parts bytes (Settled true ∷ earlier) = WasSynced parts bytes earlier ⊎ IsKept parts bytes earlier
IsKept parts bytes (call ∷ earlier) = IsKept parts bytes earlier

-- a part with these bytes was read
abbrev pub HasRead : Parts → List ℕ → List Call → Type 0
HasRead parts bytes [] = ⊥
HasRead parts bytes (Read name (Some (Some found)) ∷ earlier) = ((found ≡ bytes) × (name ≡ parts.name_of bytes)) ⊎ HasRead parts bytes earlier
HasRead parts bytes (call ∷ earlier) = HasRead parts bytes earlier

-- A part may be removed: it was read, and another part that covers it is guarded.
pub record MayGo (parts : Parts) (calls : List Call) (name : List ℕ) : Type 0 where
  pub joined : List ℕ
  pub packed : List ℕ
  pub named : name ≡ parts.name_of joined
  pub read : HasRead parts joined calls
  pub guarded : stage_of parts calls ≡ Guarded packed
  pub apart : parts.name_of packed ≢ name
  pub covers : parts.covers packed joined ≡ true

-- a call is in turn after these
abbrev pub InTurn : Parts → List Call → Call → Type 0
InTurn parts calls (Made name ok) = IsNoPart parts name
InTurn parts calls (Wrote bytes ok) = (name : List ℕ) × (filled : List ℕ) × (stage_of parts calls ≡ Filled name filled)
InTurn parts calls (Linked from to answer) = (bytes : List ℕ) × (stage_of parts calls ≡ Ready from bytes) × (to ≡ parts.name_of bytes)
InTurn parts calls (Removed name ok) = IsNoPart parts name ⊎ MayGo parts calls name
InTurn parts calls Began = (kind : Kind) × (lock_of calls ≡ Some kind)
InTurn parts calls (Settled true) = can_settle calls ≡ true
InTurn parts calls call = Unit {0}

-- all calls are, each after those before it
abbrev pub AllInTurn : Parts → List Call → Type 0
AllInTurn parts [] = Unit {0}
AllInTurn parts (call ∷ earlier) = InTurn parts earlier call × AllInTurn parts earlier

-- how far a process is with its last listing
pub data Listing : Type 0 where
  Unlisted : Listing
  -- it has begun, and the lock was had since
  Running : Listing
  -- it gave these names
  Gave : (names : List (List ℕ)) → Listing

-- while a listing runs no lock is changed and nothing removed
abbrev pub stopped : Listing → Listing
stopped Running = Unlisted
stopped listing = listing

-- after it ended
abbrev pub gave : Option (List (List ℕ)) → Listing → Listing
gave (Some names) Running = Gave names
gave answer listing = Unlisted

-- after a call
abbrev pub listing_after : Call → Listing → Listing
listing_after Began listing = Running
listing_after (Listed answer) listing = gave answer listing
listing_after (Locked kind ok) listing = stopped listing
listing_after Unlocked listing = stopped listing
listing_after (Removed name ok) listing = stopped listing
listing_after call listing = listing

-- by all calls
abbrev pub listing_of : List Call → Listing
listing_of [] = Unlisted
listing_of (call ∷ earlier) = listing_after call (listing_of earlier)

-- a part with these bytes was read since the last listing began
abbrev pub HasReadSince : Parts → List ℕ → List Call → Type 0
HasReadSince parts bytes [] = ⊥
HasReadSince parts bytes (Began ∷ earlier) = ⊥
HasReadSince parts bytes (Read name (Some (Some found)) ∷ earlier) = ((found ≡ bytes) × (name ≡ parts.name_of bytes)) ⊎ HasReadSince parts bytes earlier
HasReadSince parts bytes (call ∷ earlier) = HasReadSince parts bytes earlier

-- The last listing gave some names, and under each part's name among them a part was read since.
pub record HasReadAll (parts : Parts) (calls : List Call) : Type 0 where
  pub names : List (List ℕ)
  pub listed : listing_of calls ≡ Gave names
  pub each : (bytes : List ℕ) → Among (parts.name_of bytes) names → (found : List ℕ) × (parts.name_of found ≡ parts.name_of bytes) × HasReadSince parts found calls

-- The exclusive lock was had when the last listing began, and is had since.
abbrev pub IsAlone : List Call → Type 0
IsAlone [] = ⊥
IsAlone (Began ∷ earlier) = lock_of earlier ≡ Some Exclusive
IsAlone (Locked kind ok ∷ earlier) = ⊥
IsAlone (Unlocked ∷ earlier) = ⊥
IsAlone (call ∷ earlier) = IsAlone earlier

-- And that listing gave these names.
pub record HasWatched (names : List (List ℕ)) (calls : List Call) : Type 0 where
  pub listed : listing_of calls ≡ Gave names
  pub alone : IsAlone calls

-- A new file with these bytes was given its name under the exclusive lock, which was had since the beginning of a listing that gave these names.
abbrev pub HasPlaced : Parts → List ℕ → List (List ℕ) → List Call → Type 0
HasPlaced parts bytes names [] = ⊥
HasPlaced parts bytes names (Linked from to Done ∷ earlier) = ((stage_of parts earlier ≡ Ready from bytes) × HasWatched names earlier) ⊎ HasPlaced parts bytes names earlier
HasPlaced parts bytes names (call ∷ earlier) = HasPlaced parts bytes names earlier

-- A part with these bytes was read, and later no file had its name, or one with other bytes.
abbrev pub HasMissed : Parts → List ℕ → List Call → Type 0
HasMissed parts bytes [] = ⊥
HasMissed parts bytes (Read name (Some None) ∷ earlier) = ((name ≡ parts.name_of bytes) × HasRead parts bytes earlier) ⊎ HasMissed parts bytes earlier
HasMissed parts bytes (Read name (Some (Some found)) ∷ earlier) = ((name ≡ parts.name_of bytes) × (found ≢ bytes) × HasRead parts bytes earlier) ⊎ HasMissed parts bytes earlier
HasMissed parts bytes (call ∷ earlier) = HasMissed parts bytes earlier

-- And the folder was synced after that.
abbrev pub IsGone : Parts → List ℕ → List Call → Type 0
IsGone parts bytes [] = ⊥
IsGone parts bytes (Settled true ∷ earlier) = HasMissed parts bytes earlier ⊎ IsGone parts bytes earlier
IsGone parts bytes (call ∷ earlier) = IsGone parts bytes earlier
