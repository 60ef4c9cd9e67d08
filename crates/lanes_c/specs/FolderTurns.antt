-- What the calls that drive a folder tell.
use Rattle.std.specs.Prelude.{◌≡◌, ◌≢◌, ◌⊎◌, ℕ, ◌<◌, ◌==◌, if◌then◌else◌, List, [], ◌++◌, ◌∷◌, drop, length, MatchOption, Option, Some, None, Result, Ok, Err}
use Rattle.folder_model.specs.Call.{Call, Made, Wrote, Synced, Linked, Removed, Settled, Locked, Unlocked, Began, Listed, Read, Looked, Exclusive, Shared}
use Rattle.folder_model.specs.Parts.{Parts}
use Rattle.folder_model.specs.Turn.{IsStored}
use Rattle.folder_parts.specs.PartName.{part_name}
use Rattle.folder_protocol.specs.Causes.{Fails, FailsToSync, FindsNone, FindsOther, HasCall, Lacks}
use Rattle.folder_protocol.specs.Goes.{AreRemoved}
use Rattle.folder_protocol.specs.Keeping.{AreKept, AreReliedOn}
use Rattle.folder_protocol.specs.declared.putting.Outcome.TheVariants.{OnDisk, Unsynced, Gone, Damaged}
use Rattle.folder_turns.specs.Calls.{answered, names_of, found_of}
use Rattle.folder_turns.specs.Orders.{Matter, MayEnd, MayTake, HasOnlySeen, HasUnseen, LinksInTask, LinksOnceKept, RemovesInTask}
use Rattle.folder_turns.specs.Turns.{State, AsksInTurn, IsAstray}
use Rattle.folder_turns.specs.declared.order.End.{End}
use Rattle.folder_turns.specs.declared.order.End.TheVariants as ends
use Rattle.folder_turns.specs.declared.order.Task.{Task}
use Rattle.folder_turns.specs.declared.order.Task.TheVariants as tasks
use Rattle.folder_turns.specs.declared.request.Answer.{Answer}
use Rattle.folder_turns.specs.declared.request.Answer.TheVariants as answers
use Rattle.table_model.specs.declared.refusal.Refusal.TheVariants.{Memory}
use Rattle.lanes_c.specs.Faults.{nowhere, number_of_fault, place_of_fault}
use Rattle.lanes_c.specs.Rooms.{Given, Tells}
use Rattle.lanes_c.specs.declared.fault.Fault.{Fault}
use Rattle.lanes_c.specs.declared.fault.Fault.TheVariants as faults
use Rattle.lanes_c.specs.declared.fault.Place.{Place}
use Rattle.lanes_c.specs.declared.turn_calls.FolderCall.{FolderCall}
use Rattle.lanes_c.specs.declared.turn_handle.FolderTurn.{FolderTurn}

-- the task of a command's number; each other number is that of a listing
abbrev pub task_of : ℕ → Task
task_of n =
    if n == 1 then tasks.Put
    else if n == 2 then tasks.Keep
    else if n == 3 then tasks.Replace
    else if n == 4 then tasks.Remove
    else if n == 6 then tasks.KeepAll
    else if n == 7 then tasks.PutJudged
    else if n == 8 then tasks.KeepAndPut
    else if n == 9 then tasks.KeepAndPutJudged
    else tasks.List

-- the state of a turn that is begun: a part has the name of its bytes
abbrev pub state_begun : ℕ → List ℕ → List ℕ → State
state_begun command temporary part = record {
  task = task_of command;
  matter = record { temporary = temporary; name = part_name part; bytes = part; names = []; relied = [] };
  calls = [];
  asked = None;
  listed = [];
}

-- lanes_folder_begin: with 0 the turn is begun; else the handle is as it was
abbrev pub Begins : ℕ → ℕ → List ℕ → List ℕ → FolderTurn → FolderTurn → Type 0
Begins number command temporary part old new =
    ((number ≡ 0) × (new.state ≡ Some (state_begun command temporary part))) ⊎ ((number ≡ 0 → ⊥) × (new.state ≡ old.state))

-- a call is asked for by its number, with its names, and with an offset in the part's bytes or the length of the first name
abbrev pub IsAsked : Call → List ℕ → FolderCall → List ℕ → Type 0
IsAsked (Made name ok) part call names = (call.kind ≡ 1) × (names ≡ name)
IsAsked (Wrote bytes ok) part call names = (call.kind ≡ 2) × (bytes ≡ drop call.number part)
IsAsked (Synced ok) part call names = call.kind ≡ 3
IsAsked (Linked from to answer) part call names = (call.kind ≡ 4) × (names ≡ from ++ to) × (call.number ≡ length from)
IsAsked (Removed name ok) part call names = (call.kind ≡ 5) × (names ≡ name)
IsAsked (Settled ok) part call names = call.kind ≡ 6
IsAsked (Locked Exclusive ok) part call names = call.kind ≡ 7
IsAsked (Locked Shared ok) part call names = call.kind ≡ 8
IsAsked Began part call names = call.kind ≡ 9
IsAsked (Read name answer) part call names = (call.kind ≡ 10) × (names ≡ name)
IsAsked Unlocked part call names = call.kind ≡ 11
IsAsked (Listed answer) part call names = ⊥
IsAsked (Looked name ok) part call names = ⊥

-- whether an answer says that the call failed
abbrev pub SaysFailed : Answer → Type 0
SaysFailed answers.Failed = Unit {0}
SaysFailed (answers.FailedBy code) = Unit {0}
SaysFailed answer = ⊥

-- an answer is the one of this number, which has these with it; 2 and each number past 7 say that the call failed
pub record Fits (kind number : ℕ) (bytes : List ℕ) (names : List (List ℕ)) (answer : Answer) : Type 0 where
  pub done : kind ≡ 1 → answer ≡ answers.Done
  pub failed : kind ≡ 2 → SaysFailed answer
  pub taken : kind ≡ 3 → answer ≡ answers.Taken
  pub wrote : kind ≡ 4 → answer ≡ answers.Wrote number
  pub listed : kind ≡ 5 → names_of answer ≡ Some names
  pub missing : kind ≡ 6 → answer ≡ answers.Missing
  pub found : kind ≡ 7 → found_of answer ≡ Some (Some bytes)
  pub other : 7 < kind → SaysFailed answer

-- What was asked for was told with such an answer.
abbrev pub HasTold : ℕ → ℕ → List ℕ → State → List Call → Type 0
HasTold kind number bytes was calls =
    MatchOption was.asked (calls ≡ was.calls) (λ call. (answer : Answer) × Fits kind number bytes was.listed answer × (calls ≡ answered call answer ++ was.calls))

-- the number of an end; one whose part has other bytes has none
abbrev pub IsNumberOf : End → ℕ → Type 0
IsNumberOf (ends.Came OnDisk) n = n ≡ 1
IsNumberOf (ends.Came Unsynced) n = n ≡ 2
IsNumberOf (ends.Came Gone) n = n ≡ 3
IsNumberOf (ends.Came Damaged) n = ⊥
IsNumberOf ends.Overtaken n = n ≡ 3
IsNumberOf ends.Unseen n = n ≡ 4
IsNumberOf (ends.Listed names) n = n ≡ 0
IsNumberOf ends.Kept n = n ≡ 0

-- the end of a turn is told by this number
abbrev pub EndsAs : {E : Type 0} → Result End E → ℕ → Type 0
EndsAs (Ok end) n = IsNumberOf end n
EndsAs (Err error) n = ⊥

-- or by this fault: a part has other bytes, others have had the folder, or the system refused a call
abbrev pub EndsIn : {E : Type 0} → Result End E → Fault → Type 0
EndsIn (Ok (ends.Came Damaged)) fault = fault ≡ faults.Damaged
EndsIn (Ok end) fault = ⊥
EndsIn (Err error) fault = (fault ≡ faults.Busy) ⊎ ((code : ℕ) × (fault ≡ faults.System code))

-- What an end of this number says of all calls, after those before: a part that is on the disk is stored, and then the others are removed in whose
-- place it came; parts are kept, and so are those on which a part relies, whatever came of it; and a part that is there, and was to go with all
-- others, was given its name only as a listing under the exclusive lock gave no names but those that were seen.
abbrev pub SaysEnd : Task → Matter → ℕ → Parts → List Call → List Call → Type 0
SaysEnd tasks.Put m n parts before calls = n ≡ 1 → IsStored parts m.bytes calls
SaysEnd tasks.Keep m n parts before calls = n ≡ 1 → IsStored parts m.bytes calls
SaysEnd tasks.Replace m n parts before calls = n ≡ 1 → AreRemoved m.names before calls × IsStored parts m.bytes calls
SaysEnd tasks.Remove m n parts before calls = n ≡ 1 → AreRemoved m.names before calls × IsStored parts m.bytes calls
SaysEnd tasks.List m n parts before calls = Unit {0}
SaysEnd tasks.KeepAll m n parts before calls = AreKept parts m.names before calls
SaysEnd tasks.PutJudged m n parts before calls = (n ≡ 1 → IsStored parts m.bytes calls) × ((n ≡ 1) ⊎ (n ≡ 2) → HasOnlySeen m.names before calls)
SaysEnd tasks.KeepAndPut m n parts before calls = AreKept parts m.relied before calls × (n ≡ 1 → IsStored parts m.bytes calls)
SaysEnd tasks.KeepAndPutJudged m n parts before calls =
    AreKept parts m.relied before calls × (n ≡ 1 → IsStored parts m.bytes calls) × ((n ≡ 1) ⊎ (n ≡ 2) → HasOnlySeen m.names before calls)

-- What an end of this number comes of: a sync that failed; a name of which there was no file, or that a listing lacked; or a listing under the
-- exclusive lock that gave a name that was not seen.
pub record NumberCause (m : Matter) (n : ℕ) (before calls : List Call) : Type 0 where
  pub unsynced : n ≡ 2 → HasCall FailsToSync before calls
  pub gone : n ≡ 3 → HasCall (FindsNone m.name) before calls ⊎ HasCall (Lacks m.names) before calls
  pub unseen : n ≡ 4 → HasUnseen m.names before calls

-- The number is that of an end to which the task may come. So 0 is no end of a task that puts a part.
abbrev pub MayEndAs : Task → ℕ → Type 0
MayEndAs task n = (end : End) × MayEnd task end × IsNumberOf end n

-- What a task leaves at an end that has a number: each part that it is to keep, or on which its part relies, and that was read before, is kept, or
-- is gone and covered by another.
abbrev pub LeavesSafeAs : Task → Matter → Parts → List Call → List Call → Type 0
LeavesSafeAs tasks.KeepAll m parts before calls = AreReliedOn parts m.names before calls
LeavesSafeAs tasks.KeepAndPut m parts before calls = AreReliedOn parts m.relied before calls
LeavesSafeAs tasks.KeepAndPutJudged m parts before calls = AreReliedOn parts m.relied before calls
LeavesSafeAs task m parts before calls = Unit {0}

-- When names were given and removed by the end of a turn: as its task does it, and a part got its name only once each part on which it relies was kept,
-- or gone.
abbrev pub NamesByEnd : Parts → List Call → State → Type 0
NamesByEnd parts before state =
    LinksInTask state.task state.matter before (state.calls ++ before) × LinksOnceKept state.task state.matter parts before (state.calls ++ before)
    × RemovesInTask state.task state.matter parts before (state.calls ++ before)

-- What a fault of a turn comes of: a call that failed, or other bytes that were found; then names were given and removed as at each end. System 0
-- may also be that a run of the order has strayed from the calls that were told, and memory may run out.
abbrev pub FaultCause : Parts → Fault → List Call → State → Type 0
FaultCause parts faults.Busy before state = HasCall Fails before (state.calls ++ before) × NamesByEnd parts before state
FaultCause parts faults.Damaged before state = HasCall (FindsOther state.matter.name state.matter.bytes) before (state.calls ++ before) × NamesByEnd parts before state
FaultCause parts (faults.System code) before state = ((code ≡ 0) × IsAstray before state) ⊎ (HasCall Fails before (state.calls ++ before) × NamesByEnd parts before state)
FaultCause parts (faults.Refused refusal) before state = refusal ≡ Memory
FaultCause parts fault before state = ⊥

-- A turn has come to its end, and asks for nothing. Its number is one of its task, says what the end of that says, and has its cause. Names were given
-- and removed as its task does it, and each part that was kept or relied on is safe.
abbrev pub HasEnded : List Call → State → FolderCall → Type 0
HasEnded before state call =
    (call.kind ≡ 0) × (state.asked ≡ None)
    × ((parts : Parts) → MayTake state.task state.matter parts before
    → SaysEnd state.task state.matter call.number parts before (state.calls ++ before) × NumberCause state.matter call.number before (state.calls ++ before)
    × NamesByEnd parts before state × MayEndAs state.task call.number × LeavesSafeAs state.task state.matter parts before (state.calls ++ before))

-- What is asked for next is in turn after what was told; or the turn has ended, or is refused, which has its cause.
abbrev pub GoesOn : List Call → State → FolderCall → Given → Type 0
GoesOn before state call (Ok names) =
    HasEnded before state call ⊎ (AsksInTurn before state × MatchOption state.asked ⊥ (λ asked. IsAsked asked state.matter.bytes call names))
GoesOn before state call (Err fault) = (parts : Parts) → MayTake state.task state.matter parts before → FaultCause parts fault before state

-- The turn is about the same.
abbrev pub IsAbout : State → State → Type 0
IsAbout a b = (a.task ≡ b.task) × (a.matter ≡ b.matter)

-- the names of a listing that are left once an answer was told: a listing that is told has them all
abbrev pub names_left : ℕ → List (List ℕ) → List (List ℕ)
names_left kind names = if kind == 5 then [] else names

-- The state of a turn after an answer. 0 tells nothing. Each other answer is told of the call that was asked for, unless memory ran out before.
pub record Drives (before : List Call) (kind number : ℕ) (bytes : List ℕ) (was is : State) (call : FolderCall) (given : Given) : Type 0 where
  pub about : IsAbout is was
  pub untold : kind ≡ 0 → is.calls ≡ was.calls
  pub told : (kind ≡ 0 → ⊥) → HasTold kind number bytes was is.calls ⊎ ((is.calls ≡ was.calls) × (given ≡ Err (faults.Refused Memory)))
  pub listed : is.listed ≡ names_left kind was.listed
  pub goes : GoesOn before is call given

-- lanes_folder_next: of a closed handle NotOpen is told
abbrev pub DrivesOpen : List Call → ℕ → ℕ → List ℕ → FolderTurn → FolderTurn → FolderCall → Given → Type 0
DrivesOpen before kind number bytes old new call given =
    MatchOption old.state ((given ≡ Err faults.NotOpen) × (new.state ≡ None)) (λ was. MatchOption new.state ⊥ (λ is. Drives before kind number bytes was is call given))

-- a name is added to those of the order, if nothing was asked for yet, and else to those of the listing
abbrev pub named_at : Option Call → List ℕ → State → State
named_at None name state = record {
  task = state.task;
  matter = record {
    temporary = state.matter.temporary;
    name = state.matter.name;
    bytes = state.matter.bytes;
    names = state.matter.names ++ name ∷ [];
    relied = state.matter.relied;
  };
  calls = state.calls;
  asked = state.asked;
  listed = state.listed;
}
named_at (Some call) name state =
    record { task = state.task; matter = state.matter; calls = state.calls; asked = state.asked; listed = state.listed ++ name ∷ [] }

-- lanes_folder_name
abbrev pub named : List ℕ → State → State
named name state = named_at state.asked name state

-- lanes_folder_relied: a name is added to those on which the order's part relies
abbrev pub relying : List ℕ → State → State
relying name state = record {
  task = state.task;
  matter = record {
    temporary = state.matter.temporary;
    name = state.matter.name;
    bytes = state.matter.bytes;
    names = state.matter.names;
    relied = state.matter.relied ++ name ∷ [];
  };
  calls = state.calls;
  asked = state.asked;
  listed = state.listed;
}

-- A call that adds a name: with 0 it is added, and else the turn is as it was. Of a closed handle NotOpen is told.
abbrev pub Adds : (State → State) → ℕ → Option State → Option State → Type 0
Adds add number old new =
    MatchOption old ((number ≡ 39) × (new ≡ None)) (λ was. ((number ≡ 0) × (new ≡ Some (add was))) ⊎ ((number ≡ 0 → ⊥) × (new ≡ Some was)))
