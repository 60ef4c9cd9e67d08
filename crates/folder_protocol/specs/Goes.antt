-- How far calls of the protocol lead.
use Rattle.std.specs.Prelude.{◌≡◌, ◌≢◌, ◌⊎◌, ℕ, true, List, ◌++◌, ◌∷◌, []}
use Rattle.folder_model.specs.Call.{Call, Removed}
use Rattle.folder_model.specs.Disk.{Among}
use Rattle.folder_model.specs.Parts.{Parts}
use Rattle.folder_model.specs.Turn.{HasRead, AllInTurn}

-- Calls were made between two histories, each in turn if those before were.
abbrev pub GoesInTurn : Parts → List Call → List Call → Type 0
GoesInTurn parts before after = (calls : List Call) × (after ≡ calls ++ before) × (AllInTurn parts before → AllInTurn parts after)

-- A name is that of a part that was read, and that these bytes, whose own name is another, cover.
pub record IsJoined (parts : Parts) (packed name : List ℕ) (calls : List Call) : Type 0 where
  pub joined : List ℕ
  pub named : name ≡ parts.name_of joined
  pub read : HasRead parts joined calls
  pub apart : parts.name_of packed ≢ name
  pub covers : parts.covers packed joined ≡ true

-- each of these names is
abbrev pub AreJoined : Parts → List ℕ → List (List ℕ) → List Call → Type 0
AreJoined parts packed names calls = (name : List ℕ) → Among name names → IsJoined parts packed name calls

-- a name was removed by one of these calls
abbrev pub HasRemoved : List ℕ → List Call → Type 0
HasRemoved name [] = ⊥
HasRemoved name (Removed other true ∷ earlier) = (name ≡ other) ⊎ HasRemoved name earlier
HasRemoved name (call ∷ earlier) = HasRemoved name earlier

-- each of these names was, between two histories
abbrev pub AreRemoved : List (List ℕ) → List Call → List Call → Type 0
AreRemoved names before after = (calls : List Call) × (after ≡ calls ++ before) × ((name : List ℕ) → Among name names → HasRemoved name calls)
