-- Why parts of a folder are refused that are read and joined.
use Rattle.std.specs.Prelude.{◌≡◌, ◌⊎◌, ℕ, List, ◌∷◌, ◌++◌, length}
use Rattle.table_model.specs.declared.refusal.Refusal.TheVariants.{Memory}
use Rattle.folder_model.specs.Call.{Call}
use Rattle.folder_parts.specs.Parts.{PartForm, IsPartRefusal}
use Rattle.folder_parts.specs.declared.fault.PartFault.TheVariants.{Refused}
use Rattle.folder_parts.specs.declared.fault.PartRefusal.{PartRefusal}
use Rattle.folder_commands.specs.Joined.{WereGiven}
use Rattle.folder_commands.specs.ReadParts.{names_of, AreFound}
use Rattle.folder_commands.specs.Wanted.{wanted_of}

-- Parts were read by the calls between two histories, and the last of them, which is told, is at fault: its name is that of other bytes; or its
-- bytes are refused so, alone if it is the first, and else beside what those before it hold together; or there was no memory for it.
pub record IsPartAtFault (refusal : PartRefusal) (passed names : List (List ℕ)) (before after : List Call) : Type 0 where
  pub part : PartForm
  pub others : List PartForm
  pub rest : List (List ℕ)
  -- each was read, under its name and with its bytes
  pub found : AreFound (part ∷ others) before after
  -- they are the first of those that are wanted, in the order of the names
  pub named : wanted_of passed names ≡ names_of (part ∷ others) ++ rest
  pub last : refusal.part ≡ length others
  pub fault : IsPartRefusal refusal part others

-- memory ran out, which is told of no part
abbrev pub LacksMemory : PartRefusal → Type 0
LacksMemory refusal = refusal ≡ record { part = 0; fault = Refused Memory }

-- why parts of some names are refused
abbrev pub IsReadRefused : PartRefusal → List (List ℕ) → List (List ℕ) → List Call → List Call → Type 0
IsReadRefused refusal passed names before after = IsPartAtFault refusal passed names before after ⊎ LacksMemory refusal

-- why those of a folder are, whose names a listing gave
abbrev pub IsFolderRefused : PartRefusal → List (List ℕ) → List Call → List Call → Type 0
IsFolderRefused refusal passed before after =
    ((names : List (List ℕ)) × WereGiven names before after × IsPartAtFault refusal passed names before after) ⊎ LacksMemory refusal
