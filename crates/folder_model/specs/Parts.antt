-- What the files of a folder are to those who read it: parts, of which some cover others; and what is safe.
use Rattle.std.specs.Prelude.{◌≡◌, ◌≢◌, ℕ, Bool, true, List, Option, Some}
use Rattle.folder_model.specs.Disk.{Disk, Names, MayLead, MayLeave}

-- what is a part's name, and when bytes hold all that others hold
pub record Parts : Type 0 where
  -- the name of a part with these bytes, as a digest of them
  pub name_of : List ℕ → List ℕ
  -- whether the first bytes hold at least all that the second hold
  pub covers : List ℕ → List ℕ → Bool

-- each covers itself and what is covered by what it covers
pub record IsOrder (parts : Parts) : Type 0 where
  pub itself : (a : List ℕ) → parts.covers a a ≡ true
  pub along : (c b a : List ℕ) → parts.covers c b ≡ true → parts.covers b a ≡ true → parts.covers c a ≡ true

-- no part has this name
abbrev pub IsNoPart : Parts → List ℕ → Type 0
IsNoPart parts name = (bytes : List ℕ) → name ≢ parts.name_of bytes

-- a part with these bytes is there: a file is a part only under the name of its bytes
abbrev pub IsThere : Parts → Disk → List ℕ → Type 0
IsThere parts d bytes = (file : ℕ) × (d.names (parts.name_of bytes) ≡ Some file) × (d.contents file ≡ bytes)

-- under these names there is a part, synced, that covers these bytes
abbrev pub AreCovered : Parts → Disk → Names → List ℕ → Type 0
AreCovered parts d names bytes =
    (part : List ℕ) × (file : ℕ) × (names (parts.name_of part) ≡ Some file) × (d.contents file ≡ part) × (d.is_synced file ≡ true)
    × (parts.covers part bytes ≡ true)

-- these bytes are held: a part that is there, synced, covers them
abbrev pub IsHeld : Parts → Disk → List ℕ → Type 0
IsHeld parts d bytes = AreCovered parts d d.names bytes

-- and they are safe: whatever names a loss of power leaves, there is such a part
abbrev pub IsSafe : Parts → Disk → List ℕ → Type 0
IsSafe parts d bytes = (names : Names) → MayLeave d names → AreCovered parts d names bytes

-- whatever names a loss of power leaves, the part with these bytes is there, synced
abbrev pub IsOnDisk : Parts → Disk → List ℕ → Type 0
IsOnDisk parts d bytes =
    (entry : Option ℕ) → MayLead d (parts.name_of bytes) entry → (file : ℕ) × (entry ≡ Some file) × (d.contents file ≡ bytes) × (d.is_synced file ≡ true)
