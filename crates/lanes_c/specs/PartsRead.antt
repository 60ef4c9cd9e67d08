-- What the calls tell that take parts of a folder which the program has read, and what comes of these parts.
use Rattle.std.specs.Prelude.{◌≡◌, ◌⊎◌, ℕ, List, [], ◌∷◌, IfOk, MatchOption, Option, Some, None, Result, Ok, Err}
use Rattle.std.specs.Global.{Box}
use Rattle.table_model.specs.declared.refusal.Refusal.TheVariants.{Memory}
use Rattle.folder_parts.specs.Parts.{JoinsPart, OpensPart, PartForm}
use Rattle.folder_parts.specs.declared.fault.PartFault.{PartFault}
use Rattle.folder_turns.specs.Orders.{matter_of}
use Rattle.folder_turns.specs.Turns.{State, state_of}
use Rattle.folder_turns.specs.declared.order.Order.{Order}
use Rattle.folder_turns.specs.declared.order.Task.TheVariants.{Replace}
use Rattle.folder_turns.specs.declared.turn.Turn.{Turn}
use Rattle.replica_store.specs.Replica.{Replica}
use Rattle.replica_changes.specs.Commands.{file_of}
use Rattle.replica_changes.specs.Forgetting.{forgetting}
use Rattle.lanes_c.specs.PartsOrders.{MayFollow, matter_replacing, names_of}
use Rattle.lanes_c.specs.declared.read_parts.ReadParts.{ReadParts}
use Rattle.lanes_c.specs.Faults.{nowhere, number_of_fault, place_of_fault, told_of_part}
use Rattle.lanes_c.specs.PartsHandles.{Read}
use Rattle.lanes_c.specs.Rooms.{Given}
use Rattle.lanes_c.specs.TableChanges.{IsShared, TellsChange}
use Rattle.lanes_c.specs.Taking.{NoText}
use Rattle.lanes_c.specs.declared.fault.Fault.{Fault}
use Rattle.lanes_c.specs.declared.fault.Fault.TheVariants.{NotOpen, Refused}
use Rattle.lanes_c.specs.declared.fault.Place.{Place}
use Rattle.lanes_c.specs.declared.handle.Table.{Table}
use Rattle.lanes_c.specs.declared.parts_handle.FolderParts.{FolderParts}
use Rattle.lanes_c.specs.declared.parts_turns.BegunForget.{BegunForget}
use Rattle.lanes_c.specs.declared.turn_handle.FolderTurn.{FolderTurn}

-- ---- what is told of a call that gives something or is refused

-- 0 is answered with what is given, and else the fault's number
abbrev pub number_of_given : {X : Type 0} → Result X Fault → ℕ
number_of_given (Ok x) = 0
number_of_given (Err fault) = number_of_fault fault

-- the place that is reported
abbrev pub place_of_given : {X : Type 0} → Result X Fault → Place
place_of_given (Ok x) = nowhere
place_of_given (Err fault) = place_of_fault fault

-- what a handle has that is closed when nothing is given
abbrev pub left_of_given : {X : Type 0} → Result X Fault → Option X
left_of_given (Ok x) = Some x
left_of_given (Err fault) = None

-- ---- a part is taken

-- parts that were read, or why not
abbrev pub Took : Type 0
Took = Result Read Fault

-- parts in a box
abbrev pub read_of : Option (Box ReadParts) → Option Read
read_of (Some parts) = Some parts.value
read_of None = None

-- the same, or why there are none
abbrev pub read_by : Result (Box ReadParts) Fault → Took
read_by (Ok parts) = Ok parts.value
read_by (Err fault) = Err fault

-- A part was read, the first one or a further one; or it is at fault, by itself or given those before it.
abbrev pub IsRead : Result Read PartFault → Option Read → PartForm → Type 0
IsRead result None part = OpensPart {X = Read} (λ (r : Read). r.0) result part × IfOk result (λ (r : Read). r.1 ≡ part.bytes ∷ [])
IsRead result (Some was) part = JoinsPart {X = Read} (λ (r : Read). r.0) result was.0 part × IfOk result (λ (r : Read). r.1 ≡ part.bytes ∷ was.1)

-- The same of a name in bytes, which may be no text; memory may run out last.
abbrev pub TakesPart : Took → Option Read → List ℕ → List ℕ → Type 0
TakesPart (Ok r) was name bytes = IsRead (Ok r) was (record { name = name; bytes = bytes })
TakesPart (Err fault) was name bytes =
    NoText name fault ⊎ (((why : PartFault) × (fault ≡ told_of_part why) × IsRead (Err why) was (record { name = name; bytes = bytes })) ⊎ (fault ≡ Refused Memory))

-- lanes_parts_take: the handle has the parts with one more, and is closed if that is refused
pub record Takes (name bytes : List ℕ) (number : ℕ) (old new : FolderParts) (at : Place) : Type 0 where
  pub given : Took
  pub meant : TakesPart given old.read name bytes
  pub number_is : number ≡ number_of_given given
  pub read : new.read ≡ left_of_given given
  pub place : at ≡ place_of_given given

-- ---- the table of what parts hold

-- lanes_parts_open: the table's handle has what the parts hold together, or what it had
abbrev pub OpensRead : ℕ → Option Read → Table → Table → Place → Type 0
OpensRead number was old new at =
    MatchOption was (TellsChange (λ given. given ≡ Err NotOpen) number old.replica new.replica at) (λ r. TellsChange (λ given. IsShared (Ok r.0) given) number old.replica new.replica at)

-- ---- a pack and a forget

-- A turn puts the file of a replica in the place of the parts with these bytes, but for the one that has the file's own name. Nothing was asked
-- for yet.
abbrev pub state_replacing : List ℕ → Replica → List (List ℕ) → State
state_replacing temporary whole files =
    record { task = Replace; matter = matter_replacing temporary (names_of files) (file_of whole); calls = []; asked = None; listed = [] }

-- a turn of an order, in which nothing was asked for yet
abbrev pub turn_of : Order → State
turn_of order = record { task = order.task; matter = matter_of order; calls = []; asked = None; listed = [] }

-- Such a turn. After every history in which the parts were read its calls are in turn.
abbrev pub IsInTheirPlace : State → List ℕ → Replica → List (List ℕ) → Type 0
IsInTheirPlace state temporary whole files = (state ≡ state_replacing temporary whole files) × MayFollow state.task state.matter files

-- no turn was begun: the temporary's name is no text, or memory ran out
abbrev pub IsWhyNotBegun : Fault → List ℕ → Type 0
IsWhyNotBegun fault temporary = NoText temporary fault ⊎ (fault ≡ Refused Memory)

-- a turn that was begun, or why not
abbrev pub begun_by : Result (Box Turn) Fault → Result State Fault
begun_by (Ok turn) = Ok (state_of turn.value)
begun_by (Err fault) = Err fault

-- the turn of a pack
abbrev pub Packs : Result State Fault → List ℕ → Read → Type 0
Packs (Ok state) temporary was = IsInTheirPlace state temporary was.0 was.1
Packs (Err fault) temporary was = IsWhyNotBegun fault temporary

-- what a handle has then: the turn that was begun, or the one that it had
abbrev pub begun_or : Option State → Option State → Option State
begun_or None was = was
begun_or (Some state) was = Some state

-- lanes_parts_pack
pub record PacksRead (temporary : List ℕ) (was : Read) (number : ℕ) (old new : FolderTurn) (at : Place) : Type 0 where
  pub given : Result State Fault
  pub meant : Packs given temporary was
  pub number_is : number ≡ number_of_given given
  pub state : new.state ≡ begun_or (left_of_given given) old.state
  pub place : at ≡ place_of_given given

-- how many batches a forget drops, and its turn if it drops some; or why there is none
abbrev pub Forgot : Type 0
Forgot = Result (ℕ × Option State) Fault

-- the state of a turn in a box
abbrev pub state_in : Option (Box Turn) → Option State
state_in (Some turn) = Some (state_of turn.value)
state_in None = None

-- the same of what was made
abbrev pub forgot_by : Result BegunForget Fault → Forgot
forgot_by (Ok f) = Ok (f.batches, state_in f.turn)
forgot_by (Err fault) = Err fault

-- the turn of a forget: the file of what it leaves comes in the place of the parts, if it drops a batch
abbrev pub Forgets : Forgot → List ℕ → Read → Type 0
Forgets (Ok (batches, turn)) temporary was =
    (left : Replica) × (rows : ℕ) × (forgetting was.0 ≡ Ok ((batches, rows), left)) × MatchOption turn (batches ≡ 0) (λ state. IsInTheirPlace state temporary left was.1)
Forgets (Err fault) temporary was = IsWhyNotBegun fault temporary

-- how many batches are told; none if the forget was refused
abbrev pub batches_told : Forgot → ℕ
batches_told (Ok f) = f.0
batches_told (Err fault) = 0

-- the turn that was begun, if one was
abbrev pub turn_begun : Forgot → Option State
turn_begun (Ok f) = f.1
turn_begun (Err fault) = None

-- lanes_parts_forget
pub record ForgetsRead (temporary : List ℕ) (was : Read) (number : ℕ) (old new : FolderTurn) (batches : ℕ) (at : Place) : Type 0 where
  pub given : Forgot
  pub meant : Forgets given temporary was
  pub number_is : number ≡ number_of_given given
  pub state : new.state ≡ begun_or (turn_begun given) old.state
  pub count : batches ≡ batches_told given
  pub place : at ≡ place_of_given given

-- of closed parts: the turn is as it was
pub record NoParts (number : ℕ) (old new : FolderTurn) (at : Place) : Type 0 where
  pub number_is : number ≡ 39
  pub state : new.state ≡ old.state
  pub place : at ≡ nowhere

-- lanes_folder_part: the bytes of the part that a turn is about
abbrev pub GivesPart : Given → Option State → Type 0
GivesPart given None = given ≡ Err NotOpen
GivesPart given (Some state) = given ≡ Ok state.matter.bytes
