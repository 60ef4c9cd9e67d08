-- A folder and the processes that use it, and what a call with its answer makes of them. A call that failed may have been done, or a part of it, or none.
use Rattle.std.specs.Prelude.{◌≡◌, ◌≢◌, ◌⊎◌, ℕ, true, false, List, [], ◌∷◌, ◌++◌, Some, None}
use Rattle.folder_model.specs.Call.{Call, Made, Wrote, Synced, Linked, Removed, Settled, Locked, Unlocked, Began, Listed, Read, Looked, Exclusive, Shared, Done, Taken, Failed, lock_of, can_settle, is_clean}
use Rattle.folder_model.specs.Disk.{Among, Disk, MayLead, Leads, Fills, Syncs, Settles, Brings}

-- a folder, and what its processes have, by their numbers
pub record World : Type 0 where
  pub disk : Disk
  -- the names of temporaries that were ever drawn: they are random, and none is drawn twice
  pub drawn : List (List ℕ)
  -- the file that each process has open
  pub mine : ℕ → ℕ
  -- the disk as it was when each process's last listing began, and the names that were removed since
  pub began : ℕ → Disk
  pub gone : ℕ → List (List ℕ)
  -- the calls of each process since it began
  pub calls : ℕ → List Call

-- no name leads to this file, nor after a loss of power, and no process has it open
pub record IsFresh (w : World) (file : ℕ) : Type 0 where
  pub unnamed : (name : List ℕ) → MayLead w.disk name (Some file) → ⊥
  pub unopened : (process : ℕ) → w.mine process ≢ file

-- nothing has this name, and it was not drawn
pub record IsFree (w : World) (name : List ℕ) : Type 0 where
  pub unnamed : w.disk.names name ≡ None
  pub undrawn : Among name w.drawn → ⊥

-- the same files are open
abbrev pub SameOpen : World → World → Type 0
SameOpen d e = (process : ℕ) → e.mine process ≡ d.mine process

-- the same files are open but for one process's
pub record Opens (process file : ℕ) (d e : World) : Type 0 where
  pub own : e.mine process ≡ file
  pub others : (other : ℕ) → other ≢ process → e.mine other ≡ d.mine other

-- the same listings go on
pub record SameLists (d e : World) : Type 0 where
  pub began : (process : ℕ) → e.began process ≡ d.began process
  pub gone : (process : ℕ) → e.gone process ≡ d.gone process

-- the same listings go on, and each has one name more that was removed
pub record Loses (name : List ℕ) (d e : World) : Type 0 where
  pub began : (process : ℕ) → e.began process ≡ d.began process
  pub gone : (process : ℕ) → e.gone process ≡ name ∷ d.gone process

-- one process begins a listing
pub record Begins (process : ℕ) (d e : World) : Type 0 where
  pub own : e.began process ≡ d.disk
  pub own_gone : e.gone process ≡ []
  pub others : (other : ℕ) → other ≢ process → e.began other ≡ d.began other
  pub others_gone : (other : ℕ) → other ≢ process → e.gone other ≡ d.gone other

-- but for the disk and the calls all stays
pub record Stays (d e : World) : Type 0 where
  pub drawn : e.drawn ≡ d.drawn
  pub open_files : SameOpen d e
  pub lists : SameLists d e

-- one process has made one call more
pub record Notes (process : ℕ) (call : Call) (d e : World) : Type 0 where
  pub own : e.calls process ≡ call ∷ d.calls process
  pub others : (other : ℕ) → other ≢ process → e.calls other ≡ d.calls other

-- the file of one name has a second name, which was free
abbrev pub Links : List ℕ → List ℕ → Disk → Disk → Type 0
Links from to d e = (file : ℕ) × (d.names from ≡ Some file) × (d.names to ≡ None) × Leads to (Some file) d e

-- a name is removed, from the listings that go on too
pub record Removes (name : List ℕ) (d e : World) : Type 0 where
  pub disk : Leads name None d.disk e.disk
  pub drawn : e.drawn ≡ d.drawn
  pub open_files : SameOpen d e
  pub lists : Loses name d e

-- a new and empty file is made under a name
pub record Makes (process : ℕ) (name : List ℕ) (d e : World) : Type 0 where
  pub file : ℕ
  pub free : IsFree d name
  pub fresh : IsFresh d file
  pub disk : Brings name file [] d.disk e.disk
  pub drawn : e.drawn ≡ name ∷ d.drawn
  pub open_files : Opens process file d e
  pub lists : SameLists d e

-- it failed: the name is drawn, and the file is there or not
pub record FailsToMake (process : ℕ) (name : List ℕ) (d e : World) : Type 0 where
  pub disk : (e.disk ≡ d.disk) ⊎ ((file : ℕ) × IsFree d name × IsFresh d file × Brings name file [] d.disk e.disk)
  pub drawn : e.drawn ≡ name ∷ d.drawn
  pub open_files : SameOpen d e
  pub lists : SameLists d e

-- a name's file is open now
pub record Finds (process : ℕ) (name bytes : List ℕ) (d e : World) : Type 0 where
  pub file : ℕ
  pub named : d.disk.names name ≡ Some file
  pub holds : d.disk.contents file ≡ bytes
  pub disk : e.disk ≡ d.disk
  pub drawn : e.drawn ≡ d.drawn
  pub open_files : Opens process file d e
  pub lists : SameLists d e

-- a listing begins
pub record BeginsList (process : ℕ) (d e : World) : Type 0 where
  pub disk : e.disk ≡ d.disk
  pub drawn : e.drawn ≡ d.drawn
  pub open_files : SameOpen d e
  pub lists : Begins process d e

-- what a call with its answer does, but for noting it
abbrev pub Does : ℕ → Call → World → World → Type 0
Does p (Made name true) d e = Makes p name d e
Does p (Made name false) d e = FailsToMake p name d e
Does p (Wrote bytes true) d e = Fills (d.mine p) (d.disk.contents (d.mine p) ++ bytes) d.disk e.disk × Stays d e
Does p (Wrote bytes false) d e = (left : List ℕ) × Fills (d.mine p) left d.disk e.disk × Stays d e
Does p (Synced true) d e = ((is_clean (d.calls p) ≡ true) × Syncs (d.mine p) d.disk e.disk × Stays d e) ⊎ ((is_clean (d.calls p) ≡ false) × (e.disk ≡ d.disk) × Stays d e)
Does p (Synced false) d e = (e.disk ≡ d.disk) × Stays d e
Does p (Linked from to Done) d e = Links from to d.disk e.disk × Stays d e
Does p (Linked from to Taken) d e = ((file : ℕ) × (d.disk.names to ≡ Some file)) × (e.disk ≡ d.disk) × Stays d e
Does p (Linked from to Failed) d e = ((e.disk ≡ d.disk) ⊎ Links from to d.disk e.disk) × Stays d e
Does p (Removed name true) d e = Removes name d e
Does p (Removed name false) d e = Removes name d e ⊎ ((e.disk ≡ d.disk) × Stays d e)
Does p (Settled true) d e = ((can_settle (d.calls p) ≡ true) × Settles d.disk e.disk × Stays d e) ⊎ ((can_settle (d.calls p) ≡ false) × (e.disk ≡ d.disk) × Stays d e)
Does p (Settled false) d e = (e.disk ≡ d.disk) × Stays d e
Does p (Locked Exclusive true) d e = ((other : ℕ) → other ≢ p → lock_of (d.calls other) ≡ None) × (e.disk ≡ d.disk) × Stays d e
Does p (Locked Shared true) d e = ((other : ℕ) → other ≢ p → lock_of (d.calls other) ≢ Some Exclusive) × (e.disk ≡ d.disk) × Stays d e
Does p (Locked kind false) d e = (e.disk ≡ d.disk) × Stays d e
Does p Unlocked d e = (e.disk ≡ d.disk) × Stays d e
Does p Began d e = BeginsList p d e
-- each name that was there when the listing began, and was not removed since, is listed; others may be
Does p (Listed (Some names)) d e =
    ((name : List ℕ) (file : ℕ) → (d.began p).names name ≡ Some file → (Among name (d.gone p) → ⊥) → Among name names) × (e.disk ≡ d.disk) × Stays d e
Does p (Listed None) d e = (e.disk ≡ d.disk) × Stays d e
Does p (Read name (Some (Some bytes))) d e = Finds p name bytes d e
Does p (Read name (Some None)) d e = (d.disk.names name ≡ None) × (e.disk ≡ d.disk) × Stays d e
Does p (Read name None) d e = (e.disk ≡ d.disk) × Stays d e
Does p (Looked name ok) d e = (e.disk ≡ d.disk) × Stays d e
