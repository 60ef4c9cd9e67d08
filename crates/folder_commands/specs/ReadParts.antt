-- The parts of a folder that were read by noted calls, one after another.
use Rattle.std.specs.Prelude.{◌≡◌, ◌⊎◌, ℕ, suc, List, [], ◌∷◌, ◌++◌, length, map as each, Some, Result, Ok, Err, IfErr}
use Rattle.table_model.specs.declared.refusal.Refusal.TheVariants.{Memory}
use Rattle.folder_model.specs.Call.{Call, Read}
use Rattle.folder_model.specs.Disk.{Among}
use Rattle.folder_model.specs.Turn.{HasReadSince}
use Rattle.folder_protocol.specs.Causes.{HasCall}
use Rattle.folder_protocol.specs.Keeping.{Finds}
use Rattle.folder_protocol.specs.declared.taking.Untaken.{Untaken}
use Rattle.folder_protocol.specs.declared.taking.Untaken.TheVariants.{Refused as Refuses}
use Rattle.folder_parts.specs.Covers.{folder_parts}
use Rattle.folder_parts.specs.Parts.{PartForm, IsWhole}
use Rattle.folder_parts.specs.declared.fault.PartFault.{PartFault}
use Rattle.folder_parts.specs.declared.fault.PartFault.TheVariants.{Refused}
use Rattle.folder_parts.specs.declared.fault.PartRefusal.{PartRefusal}

-- if parts are refused, this is so of the refusal
abbrev pub IfRefused : {E : Type 0} → Untaken E → (E → Type 0) → Type 0
IfRefused (Refuses refusal) P = P refusal
IfRefused other P = Unit {0}

-- if an answer is that parts are refused, this is so of the refusal
abbrev pub IfPartsRefused : {X E : Type 0} → Result X (Untaken E) → (E → Type 0) → Type 0
IfPartsRefused result P = IfErr result (λ fault. IfRefused fault P)

-- the names of parts
abbrev pub names_of : List PartForm → List (List ℕ)
names_of parts = each (λ (part : PartForm). part.name) parts

-- each of these parts was read by one of the calls between two histories
abbrev pub AreFound : List PartForm → List Call → List Call → Type 0
AreFound parts before after = (part : PartForm) → Among part parts → HasCall (Finds part.name part.bytes) before after

-- These names are those that are wanted, in the same order; or, if a part is refused, those up to the one of which the place is told. A lack
-- of memory may be told of none of them.
abbrev pub AreReadUpTo : {X : Type 0} → Result X PartRefusal → List (List ℕ) → List (List ℕ) → Type 0
AreReadUpTo (Ok x) read wanted = read ≡ wanted
AreReadUpTo (Err refusal) read wanted =
    ((rest : List (List ℕ)) × (wanted ≡ read ++ rest) × (length read ≡ suc refusal.part))
    ⊎ ((read ≡ wanted) × (refusal.part ≡ 0) × (refusal.fault ≡ Refused Memory))

-- ---- one part after another

-- what is so of the parts with one more, if this is so of those before it
abbrev pub More : (List PartForm → Type 0) → (List PartForm → Type 0) → PartForm → Type 0
More P Q part = (parts : List PartForm) → P parts → Q (parts ++ part ∷ [])

-- The file of this name was read by one call, and this is so of it as a part.
abbrev pub ReadsOne : List ℕ → (PartForm → Type 0) → List Call → List Call → Type 0
ReadsOne name P before after = (bytes : List ℕ) × (after ≡ Read name (Some (Some bytes)) ∷ before) × P (record { name = name; bytes = bytes })

-- Parts of these names were read, so many, and this is so of them.
pub record AreReadSoFar (P : List PartForm → Type 0) (many : ℕ) (names : List (List ℕ)) (before after : List Call) : Type 0 where
  pub parts : List PartForm
  pub found : AreFound parts before after
  -- no listing has begun since
  pub since : (part : PartForm) → Among part parts → IsWhole part → HasReadSince folder_parts part.bytes after
  pub named : names_of parts ≡ names
  pub counted : length parts ≡ many
  pub so : P parts

-- Parts were read, of the first of these names, and the last of them is refused. This is so of all that were read.
pub record StopsReading (P : List PartForm → Type 0) (refusal : PartRefusal) (wanted : List (List ℕ)) (before after : List Call) : Type 0 where
  pub parts : List PartForm
  pub rest : List (List ℕ)
  pub found : AreFound parts before after
  pub named : wanted ≡ names_of parts ++ rest
  pub counted : length parts ≡ suc refusal.part
  pub so : P parts

-- Parts were read, of the first of these names, and the last of them is refused. This is so of its fault and of all that were read.
abbrev pub StopsAtFault : (PartFault → List PartForm → Type 0) → PartRefusal → List (List ℕ) → List Call → List Call → Type 0
StopsAtFault stops refusal wanted before after = StopsReading (stops refusal.fault) refusal wanted before after
