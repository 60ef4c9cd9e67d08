-- What of a folder's parts is read for a load under given names: of the parts that have a batch of such a name all, and of the others
-- their deletions alone.
use Rattle.std.specs.Prelude.{◌≡◌, ◌⊎◌, ℕ, ◌+◌, ◌≤◌, false, List, length, Option, Some, None, Result, Ok, Err, IsTrue}
use Rattle.std.specs.FinMap as map
use Rattle.std.specs.FinSet as set
use Rattle.std.specs.List.{list_any}
use Rattle.table_model.specs.Name.{row_name_cmp}
use Rattle.table_model.specs.State.{Batch}
use Rattle.table_model.specs.Table.{Table}
use Rattle.table_model.specs.declared.names.BatchName.{BatchName}
use Rattle.table_model.specs.declared.refusal.Refusal.{Refusal}
use Rattle.table_model.specs.declared.refusal.Refusal.TheVariants.{Memory}
use Rattle.column_file.specs.Input.{IsUnread}
use Rattle.column_file.specs.Skimming.{skim_in}
use Rattle.replica_reports.specs.Held.{held_in}
use Rattle.replica_store.specs.Replica.{Replica, batch_limit}
use Rattle.replica_changes.specs.Loads.{LoadForm, is_one_of}
use Rattle.folder_parts.specs.Parts.{PartForm, IsWhole}
use Rattle.folder_parts.specs.PartsPut.{part_of_named_load}
use Rattle.folder_parts.specs.declared.fault.PartFault.{PartFault}
use Rattle.folder_parts.specs.declared.fault.PartFault.TheVariants.{Damaged, Refused}
use Rattle.folder_parts.specs.declared.fault.PartRefusal.{PartRefusal}

-- A replica knows enough of another one for a number of consecutive names from a first one on: it has the same table and the same
-- deleted rows, each of its batches is one of the other's, and at each of these names it has what the other has.
pub record KnowsEnough (first : BatchName) (count : ℕ) (known whole : Replica) : Type 0 where
  pub schema : known.schema ≡ whole.schema
  pub deleted : known.state.deleted ≡ whole.state.deleted
  pub batches : (name : BatchName) (rows : Batch) → map.get known.state.batches name ≡ Some rows → map.get whole.state.batches name ≡ Some rows
  pub named : (name : BatchName) → IsTrue (is_one_of first count name) → map.get known.state.batches name ≡ map.get whole.state.batches name

-- each load of a number of batches is answered from a replica as from a whole one under these names, and brings the same to both
abbrev pub AnswersLoads : BatchName → ℕ → Replica → Replica → Type 0
AnswersLoads first count known whole = (load : LoadForm) → length load.batches ≡ count → part_of_named_load load first whole ≡ part_of_named_load load first known

-- what was read of parts that hold a replica is enough, and their batches were counted: one that is in two parts may count twice
pub record IsEnough (first : BatchName) (count : ℕ) (known : Replica) (batches : ℕ) (whole : Replica) : Type 0 where
  pub knows : KnowsEnough first count known whole
  pub counted : map.len whole.state.batches ≤ batches

-- Without its values a file has these batches, and none of them has one of a number of consecutive names from a first one on.
abbrev pub HasNoneOf : BatchName → ℕ → List ℕ → Type 0
HasNoneOf first count bytes =
    (found : Table × (List BatchName × set.FinSet row_name_cmp)) × (skim_in bytes ≡ Ok found) × (list_any (is_one_of first count) found.1.0 ≡ false)

-- This is so; or the bytes of a part are those of its name, and this is all that they hold.
abbrev pub IsOpenedOr : Type 0 → PartForm → Replica → Type 0
IsOpenedOr So part held = So ⊎ (IsWhole part × (held_in part.bytes ≡ Ok held))

-- a fault that is told of any part: out of memory, or a failed read
abbrev pub IsUnreadPart : PartFault → Type 0
IsUnreadPart Damaged = ⊥
IsUnreadPart (Refused e) = IsUnread e

-- what came of the deletions of a part that holds a replica, if these are all that is needed of it
abbrev pub SkimsDeletions : {X : Type 0} → (X → Replica) → (X → ℕ) → Result (Option X) Refusal → BatchName → ℕ → Replica → Type 0
SkimsDeletions view batches (Ok (Some x)) first count whole = IsEnough first count (view x) (batches x) whole
SkimsDeletions view batches (Ok None) first count whole = Unit {0}
SkimsDeletions view batches (Err e) first count whole = e ≡ Memory

-- What came of a part that is whole, with those before it, where all of them hold a replica: enough of it; or the part was not read, or
-- memory ran out.
abbrev pub SkimsPart : {X : Type 0} → (X → Replica) → (X → ℕ) → Result X PartFault → BatchName → ℕ → Replica → Type 0
SkimsPart view batches (Ok x) first count whole = IsEnough first count (view x) (batches x) whole
SkimsPart view batches (Err fault) first count whole = IsUnreadPart fault

-- A replica and a number of batches came of a part that is whole, with those before it. They are enough of the replica that all of them hold;
-- or the part was not read, or memory ran out.
abbrev pub SkimsTo : Result (Replica × ℕ) PartFault → BatchName → ℕ → Replica → Type 0
SkimsTo result first count whole = SkimsPart {X = Replica × ℕ} (λ s. s.0) (λ s. s.1) result first count whole

-- What came of parts that are whole and hold a replica, for loads of a number of batches under consecutive names: a replica that
-- answers each such load as all parts do, unless the batches that were counted and those of the load are too many together. Refused is
-- a part that was not read, or memory ran out.
abbrev pub SkimsParts : {X : Type 0} → (X → Replica) → (X → ℕ) → Result X PartRefusal → BatchName → ℕ → Replica → Type 0
SkimsParts view batches (Ok x) first count whole = batches x + count ≤ batch_limit → AnswersLoads first count (view x) whole
SkimsParts view batches (Err refusal) first count whole = IsUnreadPart refusal.fault
