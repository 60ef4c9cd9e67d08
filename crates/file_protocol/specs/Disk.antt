-- One folder on a disk, as this process and a crash see it.
use Rattle.std.specs.Prelude.{◌≡◌, ◌≢◌, ◌⊎◌, ◌==◌, ◌+◌, ◌≤◌, ◌||◌, ◌&&◌, not, ℕ, Bool, true, false, List, [], ◌∷◌, ◌++◌, length, take, drop, Option, Some, None, if◌then◌else◌, bytes_eq}
use Rattle.file_protocol.specs.Event.{Event, Opened, Locked, Compared, Emptied, Wrote, Synced, Renamed, Removed, Settled, SyncedFile, Read}

-- which file, by its number, each name leads to
abbrev pub Names : Type 0
Names = List ℕ → Option ℕ

-- the names once this one leads there, or to no file
abbrev pub lead : List ℕ → Option ℕ → Names → Names
lead name entry names = λ n. if bytes_eq n name then entry else names n

-- the names once a file has moved: both at once
abbrev pub move : List ℕ → List ℕ → ℕ → Names → Names
move from to file names = lead to (Some file) (lead from None names)

-- a folder on a disk: what its names lead to, what each file has, and what this process has open
pub record Disk : Type 0 where
  -- what the names lead to now
  pub names : Names
  -- what they led to at the folder's last sync, and the changes since, the newest first
  pub synced : Names
  pub changes : List (Names → Names)
  -- what a read of a file gives
  pub contents : ℕ → List ℕ
  -- it was synced and not written since
  pub is_synced : ℕ → Bool
  -- the file that this process has open, where its next write goes, and whether all that the file holds was written by
  -- this process since it emptied it, with no sync that failed
  pub mine : ℕ
  pub place : ℕ
  pub is_clean : Bool
  -- whether this process has its lock
  pub is_locked : Bool

-- The names that a loss of power may leave: each change since the last sync was made or not, each whole.
abbrev pub Reaches : Names → List (Names → Names) → Names → Type 0
Reaches synced [] names = names ≡ synced
Reaches synced (change ∷ earlier) names =
    (before : Names) × Reaches synced earlier before × ((names ≡ before) ⊎ (names ≡ change before))

-- the names that a crash leaves: those of now where only the process ends, or those that a loss of power may leave
abbrev pub MayName : Disk → Names → Type 0
MayName d names = (names ≡ d.names) ⊎ Reaches d.synced d.changes names

-- the bytes that a crash may leave in a file: any at all where it was written and not synced since
abbrev pub MayHold : Disk → ℕ → List ℕ → Type 0
MayHold d file bytes = (bytes ≡ d.contents file) ⊎ (d.is_synced file ≡ false)

-- a name has this: no file, or one with these bytes
abbrev pub Has : Disk → Names → List ℕ → Option (List ℕ) → Type 0
Has d names name None = names name ≡ None
Has d names name (Some bytes) = (file : ℕ) × (names name ≡ Some file) × MayHold d file bytes

-- A crash now may leave this under the name.
abbrev pub MayLeave : Disk → List ℕ → Option (List ℕ) → Type 0
MayLeave d name c = (names : Names) × MayName d names × Has d names name c

-- the same, once the folder is synced
abbrev pub MayShow : Disk → List ℕ → Option (List ℕ) → Type 0
MayShow d name c = Has d d.names name c

-- what a read of the name gives
abbrev pub Reads : Disk → List ℕ → Option (List ℕ) → Type 0
Reads d name None = d.names name ≡ None
Reads d name (Some bytes) = (file : ℕ) × (d.names name ≡ Some file) × (bytes ≡ d.contents file)

-- no crash leaves the name with this file
abbrev pub IsApart : Disk → List ℕ → ℕ → Type 0
IsApart d name file = (names : Names) → MayName d names → names name ≢ Some file

-- no name leads to this file, nor after a crash
abbrev pub IsFresh : Disk → ℕ → Type 0
IsFresh d file = (name : List ℕ) → IsApart d name file

-- what the calls do

-- the disk once a name leads to another file, or to none
abbrev pub led : Disk → List ℕ → Option ℕ → Disk
led d name entry = record d { names = lead name entry d.names; changes = lead name entry ∷ d.changes }

-- the disk once a file has moved from one name to another
abbrev pub moved : Disk → List ℕ → List ℕ → ℕ → Disk
moved d from to file = record d { names = move from to file d.names; changes = move from to file ∷ d.changes }

-- the open file holds these bytes, and isn't synced
abbrev pub filled : Disk → List ℕ → ℕ → Bool → Disk
filled d bytes place is_clean =
    record d {
      contents = λ f. if f == d.mine then bytes else d.contents f;
      is_synced = λ f. if f == d.mine then false else d.is_synced f;
      place = place;
      is_clean = is_clean;
    }

-- the disk once this process has opened a file, from its beginning and without its lock
abbrev pub opened : Disk → ℕ → Disk
opened d file = record d { mine = file; place = 0; is_clean = false; is_locked = false }

-- The disk once the bytes that a read of this file gives are on the disk. Of the open file only `Synced` says that.
abbrev pub stored : Disk → ℕ → Disk
stored d file = record d { is_synced = λ f. d.is_synced f || (f == file && not (f == d.mine)) }

-- the bytes, over those from this place on
abbrev pub overlaid : List ℕ → ℕ → List ℕ → List ℕ
overlaid file place bytes = take place file ++ bytes ++ drop (place + length bytes) file

-- A call with its answer takes the disk d to e. One that failed may have been done, or a part of it, or none.
abbrev pub Takes : Event → Disk → Disk → Type 0
Takes (Opened name (Some true)) d e =
    (file : ℕ) × (d.names name ≡ None) × IsFresh d file × (e ≡ opened (led d name (Some file)) file)
Takes (Opened name (Some false)) d e = (file : ℕ) × (d.names name ≡ Some file) × (e ≡ opened d file)
Takes (Opened name None) d e =
    (e ≡ d) ⊎ ((file : ℕ) × (d.names name ≡ None) × IsFresh d file × (e ≡ led d name (Some file)))
Takes (Locked true) d e = e ≡ record d { is_locked = true }
Takes (Locked false) d e = e ≡ d
Takes (Compared name true) d e = (d.names name ≡ Some d.mine) × (e ≡ d)
Takes (Compared name false) d e = e ≡ d
Takes (Emptied true) d e = e ≡ filled d [] d.place true
Takes (Emptied false) d e = (bytes : List ℕ) × (e ≡ filled d bytes d.place false)
Takes (Wrote bytes (Some n)) d e =
    (n ≤ length bytes) × (e ≡ filled d (overlaid (d.contents d.mine) d.place (take n bytes)) (d.place + n) d.is_clean)
Takes (Wrote bytes None) d e = (left : List ℕ) × (place : ℕ) × (e ≡ filled d left place false)
Takes (Synced true) d e = e ≡ record d { is_synced = λ f. if f == d.mine then d.is_clean else d.is_synced f }
Takes (Synced false) d e = e ≡ record d { is_clean = false }
Takes (Renamed from to true) d e = (file : ℕ) × (d.names from ≡ Some file) × (e ≡ moved d from to file)
Takes (Renamed from to false) d e = (e ≡ d) ⊎ ((file : ℕ) × (d.names from ≡ Some file) × (e ≡ moved d from to file))
Takes (Removed name true) d e = e ≡ led d name None
Takes (Removed name false) d e = (e ≡ d) ⊎ (e ≡ led d name None)
Takes (Settled true) d e = e ≡ record d { synced = d.names; changes = [] }
Takes (Settled false) d e = e ≡ d
Takes (SyncedFile name true) d e = (file : ℕ) × (d.names name ≡ Some file) × (e ≡ stored d file)
Takes (SyncedFile name false) d e = e ≡ d
Takes (Read name (Some answer)) d e = Reads d name answer × (e ≡ d)
Takes (Read name None) d e = e ≡ d
