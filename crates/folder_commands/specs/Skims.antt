-- What was read of a folder's parts for a load under given names, by noted calls.
use Rattle.std.specs.Prelude.{◌≡◌, ℕ, List, [], ◌∷◌, ◌++◌, Option, Some, None, Result, Ok, Err}
use Rattle.table_model.specs.declared.names.BatchName.{BatchName}
use Rattle.folder_model.specs.Call.{Call}
use Rattle.replica_store.specs.Replica.{Replica}
use Rattle.folder_parts.specs.PartReads.{IsListed, is_refusal_of_part}
use Rattle.folder_parts.specs.Parts.{PartForm, OpensParts}
use Rattle.folder_parts.specs.Skims.{SkimsTo, SkimsParts}
use Rattle.folder_parts.specs.declared.fault.PartFault.{PartFault}
use Rattle.folder_parts.specs.declared.fault.PartRefusal.{PartRefusal}
use Rattle.folder_parts.specs.declared.skimming.SkimmedParts.{SkimmedParts}
use Rattle.folder_commands.specs.Joined.{WereGiven}
use Rattle.folder_commands.specs.ReadParts.{names_of, AreFound, AreReadUpTo}
use Rattle.folder_commands.specs.Wanted.{wanted_of}

-- Parts were read by the calls between two histories, one under each name that is wanted, or up to one that is refused. If those that were
-- read are whole, and all of them hold a replica, a load under given names is answered from what came of them as from that replica.
pub record AreSkimmed {X : Type 0} (view : X → Replica) (batches : X → ℕ) (result : Result X PartRefusal) (passed names : List (List ℕ)) (first : BatchName) (count : ℕ) (before after : List Call) : Type 0 where
  pub part : PartForm
  pub others : List PartForm
  -- each was read, under its name and with its bytes
  pub found : AreFound (part ∷ others) before after
  -- they are those that are wanted, in the order of the names
  pub named : AreReadUpTo result (names_of (part ∷ others)) (wanted_of passed names)
  pub answers : (whole : Replica) → OpensParts {X = Replica} (λ r. r) (Ok whole) part others → SkimsParts view batches result first count whole

-- Parts were read by the calls between two histories, one under each name that is wanted. If those are whole, and all of them hold a replica,
-- a load under given names is answered from this as from that replica.
abbrev pub AreSkimmedAs : SkimmedParts → List (List ℕ) → List (List ℕ) → BatchName → ℕ → List Call → List Call → Type 0
AreSkimmedAs held passed names first count before after = AreSkimmed {X = SkimmedParts} (λ p. p.held.replica) (λ p. p.batches) (Ok held) passed names first count before after

-- A listing gave some names, and a part among those that were read under them is refused, as one of the refusals that a part has.
pub record IsSkimRefused (refusal : PartRefusal) (passed : List (List ℕ)) (first : BatchName) (count : ℕ) (before after : List Call) : Type 0 where
  pub names : List (List ℕ)
  pub given : WereGiven names before after
  pub read : AreSkimmed {X = Replica × ℕ} (λ s. s.0) (λ s. s.1) (Err refusal) passed names first count before after
  pub listed : IsListed is_refusal_of_part refusal.fault

-- ---- one part after another

-- what came of parts that were read: if they are whole and hold a replica, it is enough of them, or a part was not read or memory ran out
abbrev pub SkimsRead : Result (Replica × ℕ) PartFault → BatchName → ℕ → List PartForm → Type 0
SkimsRead result first count [] = ⊥
SkimsRead result first count (part ∷ others) =
    (whole : Replica) → OpensParts {X = Replica} (λ r. r) (Ok whole) part others → SkimsTo result first count whole

-- what was read so far, of parts of which there may be none
abbrev pub IsSkimOf : Option (Replica × ℕ) → BatchName → ℕ → List PartForm → Type 0
IsSkimOf None first count parts = parts ≡ []
IsSkimOf (Some skim) first count parts = SkimsRead (Ok skim) first count parts
