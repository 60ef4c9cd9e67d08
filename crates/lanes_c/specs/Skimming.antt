-- What the calls tell that read of a folder's parts, which the program has read, what a load under given names is answered from.
use Rattle.std.specs.Prelude.{◌≡◌, ◌⊎◌, ℕ, ◌+◌, ◌≤◌, List, IfErr, IfOk, MatchOption, Option, Some, None, Result, Ok, Err}
use Rattle.std.specs.Global.{Box}
use Rattle.table_model.specs.declared.names.BatchName.{BatchName}
use Rattle.table_model.specs.declared.refusal.Refusal.TheVariants.{Memory}
use Rattle.folder_parts.specs.PartReads.{IsListed, is_refusal_of_part}
use Rattle.folder_parts.specs.Parts.{PartForm}
use Rattle.folder_parts.specs.Skims.{AnswersLoads, IsEnough}
use Rattle.folder_parts.specs.declared.fault.PartFault.{PartFault}
use Rattle.folder_parts.specs.declared.skimming.Skim.{Skim}
use Rattle.folder_commands.specs.ReadParts.{More}
use Rattle.folder_commands.specs.Skims.{IsSkimOf, SkimsRead}
use Rattle.replica_store.specs.Replica.{Replica, batch_limit}
use Rattle.lanes_c.specs.Faults.{told_of_part}
use Rattle.lanes_c.specs.FolderPlans.{count_told, table_left}
use Rattle.lanes_c.specs.PartsRead.{left_of_given, number_of_given, place_of_given}
use Rattle.lanes_c.specs.SkimHandles.{Skimmed}
use Rattle.lanes_c.specs.Taking.{NoText}
use Rattle.lanes_c.specs.declared.fault.Fault.{Fault}
use Rattle.lanes_c.specs.declared.fault.Fault.TheVariants.{NotOpen, Refused}
use Rattle.lanes_c.specs.declared.fault.Place.{Place}
use Rattle.lanes_c.specs.declared.handle.Table.{Table}
use Rattle.lanes_c.specs.declared.skim_handle.FolderSkim.{FolderSkim}
use Rattle.lanes_c.specs.declared.skimming.Known.{Known}

-- ---- a part is read

-- the name of a load's first batch by its numbers
abbrev pub first_name : ℕ → ℕ → BatchName
first_name origin number = record { origin = record { 0 = origin }; number = record { 0 = number } }

-- what was read of parts, or why not
abbrev pub Took : Type 0
Took = Result Skimmed Fault

-- what was read of parts, in a box
abbrev pub skim_of : Option (Box Skim) → Option Skimmed
skim_of (Some skim) = Some skim.value
skim_of None = None

-- the same, or why it is not there
abbrev pub skim_by : Result (Box Skim) Fault → Took
skim_by (Ok skim) = Ok skim.value
skim_by (Err fault) = Err fault

-- Of the parts before and of one more what was read is enough, for loads of a number of batches under consecutive names from a first one on, if
-- it was so of those before; or the part is at fault.
abbrev pub SkimsMore : Result Skimmed PartFault → Option Skimmed → BatchName → ℕ → PartForm → Type 0
SkimsMore result had first count part =
    IfOk result (λ (next : Skimmed). More (IsSkimOf had first count) (IsSkimOf (Some next) first count) part)
    × IfErr result (λ (fault : PartFault). More (IsSkimOf had first count) (SkimsRead (Err fault) first count) part × IsListed is_refusal_of_part fault)

-- The same of a name in bytes, which may be no text; memory may run out last.
abbrev pub SkimsNamed : Took → Option Skimmed → BatchName → ℕ → List ℕ → List ℕ → Type 0
SkimsNamed (Ok next) had first count name bytes = SkimsMore (Ok next) had first count (record { name = name; bytes = bytes })
SkimsNamed (Err fault) had first count name bytes =
    NoText name fault ⊎ (((why : PartFault) × (fault ≡ told_of_part why) × SkimsMore (Err why) had first count (record { name = name; bytes = bytes })) ⊎ (fault ≡ Refused Memory))

-- lanes_skim_take: the handle has what was read of the parts with one more, and is closed if that is refused
pub record TakesSkim (first : BatchName) (count : ℕ) (name bytes : List ℕ) (number : ℕ) (old new : FolderSkim) (at : Place) : Type 0 where
  pub given : Took
  pub meant : SkimsNamed given old.skim first count name bytes
  pub number_is : number ≡ number_of_given given
  pub skim : new.skim ≡ left_of_given given
  pub place : at ≡ place_of_given given

-- ---- what loads are answered from

-- what is known of parts, and how many batches these have, or why not
abbrev pub known_by : Result Known Fault → Took
known_by (Ok known) = Ok (known.shared.value.store.value.replica, known.batches)
known_by (Err fault) = Err fault

-- If what was read is enough of the parts, loads are answered from what is known as from all of them, unless the batches of these and those of
-- the load are too many together. Only memory may run out.
abbrev pub AnswersAs : Took → Skimmed → Type 0
AnswersAs (Ok known) skim = (first : BatchName) (count : ℕ) (whole : Replica) → IsEnough first count skim.0 skim.1 whole → known.1 + count ≤ batch_limit → AnswersLoads first count known.0 whole
AnswersAs (Err fault) skim = fault ≡ Refused Memory

-- What a call told that opens what is known: it gave that or a fault, of which Means says what it has to, and what the table's handle has, the
-- count, the number and the place are those of that.
pub record TellsKnown (Means : Took → Type 0) (number : ℕ) (old new : Table) (batches : ℕ) (at : Place) : Type 0 where
  pub given : Took
  pub meant : Means given
  pub number_is : number ≡ number_of_given given
  pub replica : new.replica ≡ table_left given old.replica
  pub count : batches ≡ count_told given
  pub place : at ≡ place_of_given given

-- lanes_skim_open: the table's handle has what loads are answered from, or what it had; if nothing was read NotOpen is told
abbrev pub OpensSkim : Option Skimmed → ℕ → Table → Table → ℕ → Place → Type 0
OpensSkim was number old new batches at =
    MatchOption was (TellsKnown (λ given. given ≡ Err NotOpen) number old new batches at) (λ skim. TellsKnown (λ given. AnswersAs given skim) number old new batches at)
