-- The laws of merge, and of what each call keeps, said of the replicas that calls make.
use Rattle.std.specs.Prelude.{◌≡◌, List, ◌≢◌, ◌↔◌, ℕ, true, Option, Some, None, Ok}
use Rattle.std.specs.Ordering.{is_lt}
use Rattle.std.specs.FinMap as map
use Rattle.table_model.specs.Name.{name_cmp}
use Rattle.table_model.specs.State.{State, Batch, Agree}
use Rattle.table_model.specs.declared.names.BatchName.{BatchName}
use Rattle.table_model.specs.declared.names.RowName.{RowName}
use Rattle.replica_store.specs.declared.inserted.Inserted.{Inserted}
use Rattle.replica_store.specs.RecodeLaws.{RecodeLaws}
use Rattle.replica_store.specs.Replica.{Replica, entries_of, conflict_with, appended, inserted, deleted_rows, deleted_names, merged}

-- the first of two names is the lesser one
abbrev pub IsLesser : BatchName → BatchName → Type 0
IsLesser a b = is_lt (name_cmp a b) ≡ true

-- the first name that two replicas conflict under, if they do
abbrev pub conflict_of : Replica → Replica → Option BatchName
conflict_of r other = conflict_with r.state.batches (entries_of other)

-- two states have no two lists of rows under this name
abbrev pub AgreeAt : BatchName → State → State → Type 0
AgreeAt name s t = (a b : Batch) → map.get s.batches name ≡ Some a → map.get t.batches name ≡ Some b → a ≡ b

-- two states have two different lists of rows under this name
pub record DifferAt (name : BatchName) (s t : State) : Type 0 where
  pub first : Batch
  pub second : Batch
  pub in_first : map.get s.batches name ≡ Some first
  pub in_second : map.get t.batches name ≡ Some second
  pub apart : first ≢ second

-- to merge the second replica into the first answers Ok and makes the third
abbrev pub Merges : Replica → Replica → Replica → Type 0
Merges r other new = merged r other ≡ Ok (tt, new)

-- the replica with another replica's state
abbrev pub with_state : Replica → Replica → Replica
with_state r other = record { schema = r.schema; own = r.own; state = other.state }

-- a call keeps the schema and the own origin
pub record Keeps (old new : Replica) : Type 0 where
  pub schema : new.schema ≡ old.schema
  pub own : new.own ≡ old.own

-- two replicas conflict exactly where their states don't agree, under the least name that has two lists of rows
pub record ConflictLaws : Type 0 where
  pub none : (r other : Replica) → (conflict_of r other ≡ None) ↔ Agree r.state other.state
  pub two_lists : (r other : Replica) (name : BatchName) → conflict_of r other ≡ Some name → DifferAt name r.state other.state
  pub least : (r other : Replica) (name lesser : BatchName) → conflict_of r other ≡ Some name → IsLesser lesser name → AgreeAt lesser r.state other.state

-- a merge that answers Ok does so the other way round too and makes the same state, both bracketings make the same
-- replica, and the same merge once more answers Ok and changes nothing
pub record MergeLaws : Type 0 where
  pub conflict : ConflictLaws
  pub commutative : (r s new : Replica) → Merges r s new → Merges s r (with_state s new)
  pub associative : (r s t left both right new : Replica) → Merges r s left → Merges left t new → Merges s t both → Merges r both right → new ≡ right
  pub again : (r s new : Replica) → Merges r s new → Merges new s new

-- no call changes the schema or the own origin, and a recode changes no state and one vector alone
pub record KeepingLaws : Type 0 where
  pub append : (r new : Replica) (rows : Batch) (name : BatchName) → appended r rows ≡ Ok (name, new) → Keeps r new
  pub insert : (r new : Replica) (name : BatchName) (rows : Batch) (answer : Inserted) → inserted r name rows ≡ Ok (answer, new) → Keeps r new
  pub delete : (r new : Replica) (first : RowName) (last : ℕ) → deleted_rows r first last ≡ Ok (tt, new) → Keeps r new
  pub delete_all : (r new : Replica) (rows : List RowName) → deleted_names r rows ≡ Ok (tt, new) → Keeps r new
  pub merge : (r other new : Replica) → Merges r other new → Keeps r new
  pub recode : RecodeLaws
