-- How a part of a folder is read, and as what it is refused.
use Rattle.std.specs.Prelude.{◌≡◌, ℕ, Bool, true, ◌||◌, List, Option, Result, Ok, Err, IsTrue}
use Rattle.std.specs.Io.KnownBytes.{IsAtEnd}
use Rattle.table_model.specs.Faults.{IsWithin, GaveMore, CountsReads}
use Rattle.table_model.specs.declared.refusal.Refusal.{Refusal}
use Rattle.table_model.specs.declared.refusal.Refusal.TheVariants.{Memory, ReadFault}
use Rattle.column_file.specs.Input.{IsReadWhole, is_fault_of_file}
use Rattle.replica_changes.specs.Refusals.{is_refusal_of_merge}
use Rattle.folder_parts.specs.declared.fault.PartFault.{PartFault}
use Rattle.folder_parts.specs.declared.fault.PartFault.TheVariants.{Damaged, Refused}

-- ---- which refusals there are

-- whether the bytes of a part may be refused so, or its join with the parts before it
abbrev pub is_refusal_of_part : Refusal → Bool
is_refusal_of_part e = is_fault_of_file e || is_refusal_of_merge e

-- or its reading
abbrev pub is_refusal_of_parts : Refusal → Bool
is_refusal_of_parts ReadFault = true
is_refusal_of_parts other = is_refusal_of_part other

-- a part has this fault: another name, or one of these refusals
abbrev pub IsListed : (Refusal → Bool) → PartFault → Type 0
IsListed is_refusal Damaged = Unit {0}
IsListed is_refusal (Refused e) = IsTrue (is_refusal e)

-- ---- how parts are read

-- a part as it is given: its name, and its reader with the count of failures
abbrev pub Given : Type 0 → Type 0
Given D = List ℕ × (D × ℕ)

-- A part was read whole, and has its name still.
abbrev pub IsPartRead : {D : Type 0} → (D → Option (List ℕ)) → Given D → Given D → Type 0
IsPartRead remaining old new = (new.0 ≡ old.0) × IsReadWhole remaining old.1 new.1

-- a reader's count of failures: it rose with a failed read, unless more came than a call reads; and else it stayed
abbrev pub CountsPart : Type 0 → PartFault → ℕ → ℕ → Type 0
CountsPart many Damaged before after = after ≡ before
CountsPart many (Refused e) before after = CountsReads many e before after

-- The call was refused at a part. It has its name still; unless memory ran out or a read failed, it was read to its end; and a failed
-- read is counted.
pub record StopsAtPart {D : Type 0} (remaining : D → Option (List ℕ)) (fault : PartFault) (old new : Given D) : Type 0 where
  pub name : new.0 ≡ old.0
  pub whole : (fault ≡ Refused Memory → ⊥) → (fault ≡ Refused ReadFault → ⊥) → IsWithin (remaining old.1.0) × IsAtEnd (remaining new.1.0)
  pub counts : CountsPart (GaveMore (remaining old.1.0) (remaining new.1.0)) fault old.1.1 new.1.1

-- how a call that reads a part ends
abbrev pub EndsPart : {D X : Type 0} → (D → Option (List ℕ)) → Result X PartFault → Given D → Given D → Type 0
EndsPart remaining (Ok x) old new = IsPartRead remaining old new
EndsPart remaining (Err fault) old new = IsListed is_refusal_of_parts fault × StopsAtPart remaining fault old new
