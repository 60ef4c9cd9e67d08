-- What parts of a folder hold together, as they were read by noted calls.
use Rattle.std.specs.Prelude.{◌≡◌, ℕ, true, List, [], ◌∷◌, ◌++◌, length, Option, Some, None, Ok}
use Rattle.folder_model.specs.Call.{Call}
use Rattle.folder_model.specs.Disk.{Among}
use Rattle.folder_model.specs.Turn.{Gave, HasRead, listing_of}
use Rattle.replica_store.specs.Replica.{Replica}
use Rattle.replica_changes.specs.Commands.{merged_files}
use Rattle.folder_parts.specs.Covers.{folder_parts}
use Rattle.folder_parts.specs.PartName.{part_name}
use Rattle.folder_parts.specs.Parts.{PartForm, IsPartRefusal, OpensParts}
use Rattle.folder_parts.specs.declared.fault.PartFault.{PartFault}
use Rattle.folder_parts.specs.declared.fault.PartRefusal.{PartRefusal}
use Rattle.folder_commands.specs.Wanted.{is_wanted}

-- parts were opened, and this is their join
abbrev pub AreOpened : Replica → List PartForm → Type 0
AreOpened held [] = ⊥
AreOpened held (part ∷ others) = OpensParts {X = Replica} (λ r. r) (Ok held) part others

-- what was joined of parts that were taken: nothing if there was none, and else the join of all
abbrev pub IsJoinedOf : Option Replica → List PartForm → Type 0
IsJoinedOf None parts = parts ≡ []
IsJoinedOf (Some held) parts = AreOpened held parts

-- the last of some parts is at fault, and those before it were opened
abbrev pub IsStopped : PartFault → List PartForm → Type 0
IsStopped fault [] = ⊥
IsStopped fault (part ∷ others) = IsPartRefusal (record { part = length others; fault = fault }) part others

-- Files were read by these calls, each under the name of its bytes, and this is what they hold together; each of these names that is wanted is that of one of them.
pub record AreRead (passed names : List (List ℕ)) (whole : Replica) (calls : List Call) : Type 0 where
  pub first : List ℕ
  pub others : List (List ℕ)
  pub made : merged_files first others ≡ Ok whole
  -- each file was read, under the name of its bytes
  pub read : (file : List ℕ) → Among file (first ∷ others) → HasRead folder_parts file calls
  -- and under each name that is wanted there is one
  pub each : (name : List ℕ) → Among name names → is_wanted passed name ≡ true → (file : List ℕ) × (name ≡ part_name file) × Among file (first ∷ others)

-- none of these names is wanted
abbrev pub AreUnwanted : List (List ℕ) → List (List ℕ) → Type 0
AreUnwanted passed names = (name : List ℕ) → Among name names → is_wanted passed name ≡ true → ⊥

-- The parts of these names that are wanted were read by these calls, and this is what they hold together; or none of the names is wanted.
abbrev pub IsReadAs : List (List ℕ) → List (List ℕ) → Option Replica → List Call → Type 0
IsReadAs passed names None calls = AreUnwanted passed names
IsReadAs passed names (Some whole) calls = AreRead passed names whole calls

-- These are the names that the last listing gave.
abbrev pub AreGiven : List (List ℕ) → List Call → Type 0
AreGiven names calls = listing_of calls ≡ Gave names

-- At some moment between two histories these were the names that the last listing had given.
abbrev pub WereGiven : List (List ℕ) → List Call → List Call → Type 0
WereGiven names before after = (first : List Call) × (rest : List Call) × (after ≡ rest ++ (first ++ before)) × AreGiven names (first ++ before)
