-- Which refusals a part has, and how a call ends that reads it.
use Rattle.std.specs.Prelude.{◌≡◌, ℕ, ◌||◌, Bool, true, false, List, Option, Result, Ok, Err, IsTrue, IfErr}
use Rattle.std.proofs.Common.{refl, ap, subst, inl, inr}
use Rattle.table_model.specs.Outcome.{Gives}
use Rattle.table_model.specs.Reading.{Reads}
use Rattle.table_model.specs.Faults.{GaveMore}
use Rattle.table_model.specs.declared.names.Origin.{Origin}
use Rattle.table_model.specs.declared.refusal.Refusal.{Refusal}
use Rattle.table_model.specs.declared.refusal.Refusal.TheVariants.{Memory, ReadFault}
use Rattle.column_file.specs.Files.{opened_from}
use Rattle.column_file.specs.Input.{IsReadWhole, StopsReading, is_unread, is_fault_of_file}
use Rattle.column_file.proofs.FaultsOfBytes.{Judged}
use Rattle.column_file.proofs.OpenedSegments.{opened_from_judged}
use Rattle.replica_store.specs.Replica.{Replica, merged}
use Rattle.replica_changes.specs.Refusals.{is_refusal_of_merge}
use Rattle.replica_changes.proofs.StoreCommands.{join_listed}
use Rattle.folder_parts.specs.PartReads.{is_refusal_of_part, is_refusal_of_parts, IsListed, Given, CountsPart, EndsPart}
use Rattle.folder_parts.specs.declared.fault.PartFault.{PartFault}
use Rattle.folder_parts.specs.declared.fault.PartFault.TheVariants.{Damaged, Refused}

-- ---- which refusals there are

first_or : (a b : Bool) → IsTrue a → IsTrue (a || b)
first_or true b is = refl
first_or false b is = cc

second_or : (a b : Bool) → IsTrue b → IsTrue (a || b)
second_or true b is = refl
second_or false b is = is

-- bytes that are not opened
pub open_listed : {X : Type 0} (view : X → Replica) (own : Origin) (bytes : List ℕ) (e : Refusal) → Reads {X = X} view (Err e) (opened_from own bytes) → IsTrue (is_refusal_of_part e)
open_listed view own bytes e (inl is) =
    let P : Result Replica Refusal → Type 0 = λ r. Judged is_fault_of_file r in
    first_or (is_fault_of_file e) (is_refusal_of_merge e) (subst P is (opened_from_judged own bytes))
open_listed view own bytes e (inr is) = ap is_refusal_of_part is

-- a join that is not made
pub unjoined_listed : {X : Type 0} (view : X → Unit {0} × Replica) (r other : Replica) (e : Refusal) → Reads {X = X} view (Err e) (merged r other) → IsTrue (is_refusal_of_part e)
unjoined_listed view r other e joined = second_or (is_fault_of_file e) (is_refusal_of_merge e) (join_listed r other e joined)

-- only memory
pub lack_is : {X : Type 0} (x : X) (e : Refusal) → Gives {X = X} {Y = X} (λ y. y) (Err e) (Ok x) → e ≡ Memory
lack_is x e (inl other) = let bad : ⊥ = cc in absurd bad
lack_is x e (inr lack) = lack.0

pub lack_listed : {X : Type 0} (x : X) (e : Refusal) → Gives {X = X} {Y = X} (λ y. y) (Err e) (Ok x) → IsTrue (is_refusal_of_part e)
lack_listed x e given = ap is_refusal_of_part (lack_is x e given)

pub parts_listed : (fault : PartFault) → IsListed is_refusal_of_part fault → IsListed is_refusal_of_parts fault
parts_listed Damaged listed = tt
parts_listed (Refused ReadFault) listed = refl
parts_listed (Refused other) listed = listed

unread_listed : (e : Refusal) → IsTrue (is_unread e) → IsTrue (is_refusal_of_parts e)
unread_listed Memory listed = refl
unread_listed ReadFault listed = refl
unread_listed other listed = cc

-- ---- one part

counts_part : (many : Type 0) (fault : PartFault) (before after : ℕ) → IsListed is_refusal_of_part fault → after ≡ before → CountsPart many fault before after
counts_part many Damaged before after listed same = same
counts_part many (Refused ReadFault) before after listed same = cc
counts_part many (Refused other) before after listed same = same

module _ {D : Type 0} (remaining : D → Option (List ℕ)) where
  -- a part that was not read
  pub unread_ends : (e : Refusal) (old new : Given D) → new.0 ≡ old.0 → StopsReading remaining is_unread old.1 new.1 e → EndsPart {X = Unit {0}} remaining (Err (Refused e)) old new
  unread_ends e old new name stops = (
    unread_listed e stops.listed,
    record {
      name = name;
      whole = λ memory failed. stops.whole (λ is. memory (ap (λ (x : Refusal). Refused x) is)) (λ is. failed (ap (λ (x : Refusal). Refused x) is));
      counts = stops.counts;
    },
  )

  -- one that was read, and judged
  pub read_ends : {X : Type 0} (result : Result X PartFault) (old new : Given D) → new.0 ≡ old.0 → IsReadWhole remaining old.1 new.1 → IfErr result (λ fault. IsListed is_refusal_of_part fault) → EndsPart remaining result old new
  read_ends (Ok x) old new name whole listed = (name, whole)
  read_ends (Err fault) old new name whole listed = (
    parts_listed fault listed,
    record {
      name = name;
      whole = λ memory failed. (whole.within, whole.end);
      counts = counts_part (GaveMore (remaining old.1.0) (remaining new.1.0)) fault old.1.1 new.1.1 listed whole.kept;
    },
  )
