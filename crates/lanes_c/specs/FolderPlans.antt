-- What the head of a part says, and what the call tells that reads it.
use Rattle.std.specs.Prelude.{◌≡◌, ℕ, List, Option, Some, Result, Ok, Err}
use Rattle.table_model.specs.Reading.{◌>>=◌}
use Rattle.table_model.specs.declared.refusal.Refusal.{Refusal}
use Rattle.folder_parts.specs.Heads.{head_in}
use Rattle.folder_parts.specs.PartsPut.{empty_replica}
use Rattle.replica_store.specs.Replica.{Replica}
use Rattle.lanes_c.specs.Calls.{Yields}
use Rattle.lanes_c.specs.PartsRead.{number_of_given, place_of_given}
use Rattle.lanes_c.specs.declared.fault.Fault.{Fault}
use Rattle.lanes_c.specs.declared.fault.Place.{Place}
use Rattle.lanes_c.specs.declared.folder_plans.EmptyHead.{EmptyHead}
use Rattle.lanes_c.specs.declared.handle.Table.{Table}

-- the empty table of the columns that the head of a part names, and how many batches it says that the part has; or its first fault
abbrev pub empty_head : List ℕ → Result (Replica × ℕ) Refusal
empty_head bytes = head_in bytes >>= λ found. Ok (empty_replica found.0, found.1)

-- what was made of a head, or why not
abbrev pub Headed : Type 0
Headed = Result (Replica × ℕ) Fault

-- the same of what is in memory
abbrev pub head_by : Result EmptyHead Fault → Headed
head_by (Ok head) = Ok (head.shared.value.store.value.replica, head.batches)
head_by (Err fault) = Err fault

-- what the table's handle has then
abbrev pub table_left : Headed → Option Replica → Option Replica
table_left (Ok head) was = Some head.0
table_left (Err fault) was = was

-- how many batches are told
abbrev pub count_told : Headed → ℕ
count_told (Ok head) = head.1
count_told (Err fault) = 0

-- lanes_head
pub record ReadsHead (bytes : List ℕ) (number : ℕ) (old new : Table) (batches : ℕ) (at : Place) : Type 0 where
  pub given : Headed
  pub meant : Yields given (empty_head bytes)
  pub number_is : number ≡ number_of_given given
  pub replica : new.replica ≡ table_left given old.replica
  pub count : batches ≡ count_told given
  pub place : at ≡ place_of_given given
