-- The parts of a folder, each of which has a name and bytes, as one replica.
use Rattle.std.specs.Prelude.{◌≡◌, ◌≢◌, ◌⊎◌, ℕ, ◌+◌, List, [], ◌∷◌, map as each, take, slice_get, Option, Some, Result, Ok, Err}
use Rattle.table_model.specs.declared.refusal.Refusal.{Refusal}
use Rattle.replica_store.specs.Replica.{Replica}
use Rattle.column_file.specs.Input.{IsUnread}
use Rattle.replica_reports.specs.Held.{held_in}
use Rattle.replica_changes.specs.Commands.{merged_with, merged_files}
use Rattle.folder_parts.specs.PartName.{part_name}
use Rattle.folder_parts.specs.declared.fault.PartFault.{PartFault}
use Rattle.folder_parts.specs.declared.fault.PartFault.TheVariants.{Damaged, Refused}
use Rattle.folder_parts.specs.declared.fault.PartRefusal.{PartRefusal}

-- a part as it lies in a folder: its name and its bytes
pub record PartForm : Type 0 where
  pub name : List ℕ
  pub bytes : List ℕ

-- its name is that of its bytes
abbrev pub IsWhole : PartForm → Type 0
IsWhole part = part.name ≡ part_name part.bytes

-- so are all of them
abbrev pub AreWhole : List PartForm → Type 0
AreWhole [] = Unit {0}
AreWhole (part ∷ parts) = IsWhole part × AreWhole parts

-- the bytes of parts
abbrev pub bytes_of : List PartForm → List (List ℕ)
bytes_of parts = each (λ (part : PartForm). part.bytes) parts

-- The fault of a part, where what comes of it is given: its name is that of other bytes; or it is refused as is given, if it isn't for
-- being out of memory or for a failed read.
abbrev pub IsFaultOf : PartFault → PartForm → Result Replica Refusal → Type 0
IsFaultOf Damaged part made = part.name ≢ part_name part.bytes
IsFaultOf (Refused e) part made = (IsWhole part × (made ≡ Err e)) ⊎ IsUnread e

-- a part was compared with its name, or its name is that of other bytes, or it was not read
abbrev pub IsCompared : Result (Unit {0}) PartFault → PartForm → Type 0
IsCompared (Ok done) part = IsWhole part
IsCompared (Err Damaged) part = part.name ≢ part_name part.bytes
IsCompared (Err (Refused e)) part = IsUnread e

-- the first part was opened, or it is at fault
abbrev pub OpensPart : {X : Type 0} → (X → Replica) → Result X PartFault → PartForm → Type 0
OpensPart view (Ok x) part = IsWhole part × (held_in part.bytes ≡ Ok (view x))
OpensPart view (Err fault) part = IsFaultOf fault part (held_in part.bytes)

-- a further part was joined to what those before it hold, or it is at fault given these
abbrev pub JoinsPart : {X : Type 0} → (X → Replica) → Result X PartFault → Replica → PartForm → Type 0
JoinsPart view (Ok x) old part = IsWhole part × (merged_with old (part.bytes ∷ []) ≡ Ok (view x))
JoinsPart view (Err fault) old part = IsFaultOf fault part (merged_with old (part.bytes ∷ []))

-- further parts were joined, all of them, or up to one that is at fault given what was joined by then
pub record StopsAt (refusal : PartRefusal) (old : Replica) (parts : List PartForm) : Type 0 where
  pub at : ℕ
  pub part : PartForm
  pub held : Replica
  pub place : refusal.part ≡ at + 1
  pub found : slice_get parts at ≡ Some part
  pub whole : AreWhole (take at parts)
  pub joined : merged_with old (bytes_of (take at parts)) ≡ Ok held
  pub fault : IsFaultOf refusal.fault part (merged_with held (part.bytes ∷ []))

-- The first part is at fault, whose place is 0; or it is opened, and a further one is at fault.
abbrev pub IsPartRefusal : PartRefusal → PartForm → List PartForm → Type 0
IsPartRefusal refusal first others =
    ((refusal.part ≡ 0) × IsFaultOf refusal.fault first (held_in first.bytes))
    ⊎ ((held : Replica) × IsWhole first × (held_in first.bytes ≡ Ok held) × StopsAt refusal held others)

-- All parts were opened: each is named by its bytes, and what was made has what all of them hold. Or the first part at fault is reported.
abbrev pub OpensParts : {X : Type 0} → (X → Replica) → Result X PartRefusal → PartForm → List PartForm → Type 0
OpensParts view (Ok x) first others = AreWhole (first ∷ others) × (merged_files first.bytes (bytes_of others) ≡ Ok (view x))
OpensParts view (Err refusal) first others = IsPartRefusal refusal first others

-- ---- parts that are read

-- a part is this one: its name, and what its reader has
abbrev pub IsPart : {D : Type 0} → (D → Option (List ℕ)) → List ℕ × (D × ℕ) → PartForm → Type 0
IsPart remaining part form = (part.0 ≡ form.name) × (remaining part.1.0 ≡ Some form.bytes)
