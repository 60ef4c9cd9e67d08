-- What the calls tell that change the table of a handle, and what the handle has after them.
use Rattle.std.specs.Prelude.{◌≡◌, ◌⊎◌, ℕ, Bool, List, [], ◌∷◌, MatchOption, Option, Some, Result, Ok, Err}
use Rattle.std.specs.Global.{Box}
use Rattle.table_model.specs.Reading.{◌>>=◌}
use Rattle.table_model.specs.declared.names.BatchName.{BatchName}
use Rattle.table_model.specs.declared.names.RowName.{RowName}
use Rattle.table_model.specs.declared.refusal.Refusal.{Refusal}
use Rattle.table_model.specs.declared.refusal.Refusal.TheVariants.{Memory}
use Rattle.column_file.specs.Files.{offer_read}
use Rattle.replica_store.specs.Replica.{Replica}
use Rattle.replica_changes.specs.CommandForms.{CommandForm, Import, Apply, adding}
use Rattle.replica_changes.specs.Commands.{Made}
use Rattle.replica_changes.specs.Forgetting.{forgetting}
use Rattle.replica_changes.specs.Loads.{LoadForm}
use Rattle.lanes_c.specs.Calls.{Yields}
use Rattle.lanes_c.specs.Faults.{nowhere, number_of_fault, place_of_fault}
use Rattle.lanes_c.specs.Importing.{IsWhyNotRead, LoadsText}
use Rattle.lanes_c.specs.declared.fault.Fault.{Fault}
use Rattle.lanes_c.specs.declared.fault.Fault.TheVariants.{NotOpen, Refused}
use Rattle.lanes_c.specs.declared.fault.Place.{Place}
use Rattle.lanes_c.specs.declared.handle.Table.{Table}
use Rattle.lanes_c.specs.declared.shared.Shared.{Shared}

-- ---- what a change gives

-- what a change gives: a replica, or why not
abbrev pub Changed : Type 0
Changed = Result Replica Fault

-- the replica that a share has after a change, or why the change was refused
abbrev pub changed_by : Result (Unit {0}) Fault → Replica → Changed
changed_by (Ok done) r = Ok r
changed_by (Err fault) r = Err fault

-- the replica of a share of a store, or why there is none
abbrev pub shared_by : Result (Box Shared) Fault → Changed
shared_by (Ok shared) = Ok shared.value.store.value.replica
shared_by (Err fault) = Err fault

-- what is shared is what was made; memory may run out for the share
abbrev pub IsShared : Changed → Changed → Type 0
IsShared (Ok r) given = (given ≡ Ok r) ⊎ (given ≡ Err (Refused Memory))
IsShared (Err fault) given = given ≡ Err fault

-- ---- what the changes mean

-- the replica that a command makes, or its refusal
abbrev pub replica_made : {Y : Type 0} → Made Y → Result Replica Refusal
replica_made (Ok made) = Ok made.1
replica_made (Err e) = Err e

-- the replica with what a command brings
abbrev pub with_command : CommandForm → Replica → Result Replica Refusal
with_command command r = replica_made (adding command r)

-- the name of a row by its numbers
abbrev pub row_name : ℕ → ℕ → ℕ → RowName
row_name origin number ordinal = record { batch = record { origin = record { 0 = origin }; number = record { 0 = number } }; ordinal = ordinal }

-- lanes_table_forget: the replica without the batches of which every row is deleted
abbrev pub without_dead : Replica → Result Replica Refusal
without_dead r = replica_made (forgetting r)

-- lanes_table_apply: the replica with what an offer brings
abbrev pub with_offer : List ℕ → Replica → Result Replica Refusal
with_offer offer r = offer_read offer >>= λ o. with_command (Apply (o ∷ [])) r

-- lanes_table_import: the replica with the rows of a text; or why these weren't loaded; or what their import is refused as
abbrev pub ImportsText : Changed → List ℕ → Bool → Option BatchName → List ℕ → Replica → Type 0
ImportsText (Ok new) text has_heading first words r = (load : LoadForm) × LoadsText r.schema text has_heading load × Yields (Ok new) (with_command (Import load first words) r)
ImportsText (Err fault) text has_heading first words r =
    IsWhyNotRead r.schema text has_heading fault ⊎ ((load : LoadForm) × LoadsText r.schema text has_heading load × Yields (Err fault) (with_command (Import load first words) r))

-- ---- what is told

-- what a handle has after a change: what the change gives, and what it had if that was refused
abbrev pub left_open : Changed → Option Replica → Option Replica
left_open (Ok r) was = Some r
left_open (Err fault) was = was

-- 0 is answered with a change, and else the fault's number
abbrev pub number_of_change : Changed → ℕ
number_of_change (Ok r) = 0
number_of_change (Err fault) = number_of_fault fault

-- the place that is reported
abbrev pub place_of_change : Changed → Place
place_of_change (Ok r) = nowhere
place_of_change (Err fault) = place_of_fault fault

-- What a call told that changes the table of a handle: it gave a replica or a fault, of which Means says what it has to, and what the
-- handle has, the number and the place are those of that.
pub record TellsChange (Means : Changed → Type 0) (number : ℕ) (was is : Option Replica) (at : Place) : Type 0 where
  pub given : Changed
  pub meant : Means given
  pub number_is : number ≡ number_of_change given
  pub replica : is ≡ left_open given was
  pub place : at ≡ place_of_change given

-- The table of a handle is changed. Of a closed one NotOpen is reported.
abbrev pub ChangesOpen : (Replica → Changed → Type 0) → ℕ → Table → Table → Place → Type 0
ChangesOpen Means number old new at =
    MatchOption old.replica (TellsChange (λ given. given ≡ Err NotOpen) number old.replica new.replica at) (λ r. TellsChange (Means r) number old.replica new.replica at)
