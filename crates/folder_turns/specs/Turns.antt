-- The state of a turn, and what is said of it.
use Rattle.std.specs.Prelude.{◌≡◌, refl, ◌==◌, ◌++◌, if◌then◌else◌, ℕ, true, List, [], map, Option, Some, option_map, MatchOption, Result}
use Rattle.std.specs.String.{string_bytes}
use Rattle.std.specs.Coded.{Coded, code_by, coded_ℕ, coded_list, coded×, coded_option}
use Rattle.std.specs.declared.io.Error.{Error}
use Rattle.folder_model.specs.Call.{Call, can_settle}
use Rattle.folder_model.specs.Parts.{Parts}
use Rattle.folder_model.specs.Turn.{InTurn, AllInTurn}
use Rattle.folder_turns.specs.Asking.{HasRunAstray}
use Rattle.folder_turns.specs.Calls.{call_asked, calls_after}
use Rattle.folder_turns.specs.Coding.{coded_call}
use Rattle.folder_turns.specs.Orders.{Matter, MayTake, EndSays, matter_of}
use Rattle.folder_turns.specs.declared.order.End.{End}
use Rattle.folder_turns.specs.declared.order.Task.{Task}
use Rattle.folder_turns.specs.declared.order.Task.TheVariants as tasks
use Rattle.folder_turns.specs.declared.request.Request.{Request}
use Rattle.folder_turns.specs.declared.turn.Turn.{Turn}

-- how far a turn is: what is done with what, the calls told, the newest first, the call that is asked for, and the names told of a listing that has not ended
pub record State : Type 0 where
  pub task : Task
  pub matter : Matter
  pub calls : List Call
  pub asked : Option Call
  pub listed : List (List ℕ)

-- how far a turn is
abbrev pub state_of : Turn → State
state_of turn = record {
  task = turn.order.task;
  matter = matter_of turn.order;
  calls = calls_after turn.order.bytes.items turn.told.items [];
  asked = option_map (call_asked turn.order.bytes.items) turn.asked;
  listed = map string_bytes turn.listed.items;
}

-- once this call is asked for
abbrev pub asking : Request → Turn → State
asking request turn = record {
  task = turn.order.task;
  matter = matter_of turn.order;
  calls = calls_after turn.order.bytes.items turn.told.items [];
  asked = Some (call_asked turn.order.bytes.items request);
  listed = map string_bytes turn.listed.items;
}

-- A call is asked for that is in turn after those told, which came after these.
abbrev pub AsksInTurn : List Call → State → Type 0
AsksInTurn before state =
    MatchOption state.asked ⊥ (λ call. (parts : Parts) → AllInTurn parts before → MayTake state.task state.matter parts before → InTurn parts (state.calls ++ before) call)

-- An end says of the calls told what the task says.
abbrev pub EndsSaying : {E : Type 0} → List Call → State → Result End E → Type 0
EndsSaying before state end = (parts : Parts) → MayTake state.task state.matter parts before → EndSays state.task state.matter end parts before (state.calls ++ before)

-- A run of the order, after these calls, strays from those that were told. What it comes to says of its calls what the task says.
abbrev pub IsAstray : List Call → State → Type 0
IsAstray before state =
    can_settle before ≡ true
    → HasRunAstray {T = Result End Error} (MayTake state.task state.matter) (EndSays state.task state.matter) state.matter.bytes before (state.calls ++ before)

-- Another call is asked for, or none; the rest is as it was.
abbrev pub IsSame : State → State → Type 0
IsSame a b = (a.task ≡ b.task) × (a.matter ≡ b.matter) × (a.calls ≡ b.calls) × (a.listed ≡ b.listed)

-- ---- a code of states, by which a struct may say that two are equal

-- the number of a task
abbrev number : Task → ℕ
number tasks.Put = 0
number tasks.Keep = 1
number tasks.Replace = 2
number tasks.Remove = 3
number tasks.List = 4
number tasks.KeepAll = 5
number tasks.PutJudged = 6
number tasks.KeepAndPut = 7
number tasks.KeepAndPutJudged = 8

-- the task of a number
abbrev task_at : ℕ → Task
task_at n =
    if n == 0 then tasks.Put
    else if n == 1 then tasks.Keep
    else if n == 2 then tasks.Replace
    else if n == 3 then tasks.Remove
    else if n == 4 then tasks.List
    else if n == 5 then tasks.KeepAll
    else if n == 6 then tasks.PutJudged
    else if n == 7 then tasks.KeepAndPut
    else tasks.KeepAndPutJudged

-- the number gives the task again
task_again : (t : Task) → task_at (number t) ≡ t
task_again tasks.Put = refl
task_again tasks.Keep = refl
task_again tasks.Replace = refl
task_again tasks.Remove = refl
task_again tasks.List = refl
task_again tasks.KeepAll = refl
task_again tasks.PutJudged = refl
task_again tasks.KeepAndPut = refl
task_again tasks.KeepAndPutJudged = refl

-- a number, three texts, names twice, calls, a call and names
abbrev Shape : Type 0
Shape = ℕ × (List ℕ × (List ℕ × (List ℕ × (List (List ℕ) × (List (List ℕ) × (List Call × (Option Call × List (List ℕ))))))))

-- the shape of a state
abbrev shape : State → Shape
shape s = (number s.task, (s.matter.temporary, (s.matter.name, (s.matter.bytes, (s.matter.names, (s.matter.relied, (s.calls, (s.asked, s.listed))))))))

-- the state of a shape
abbrev state : Shape → State
state (n, (temporary, (name, (bytes, (names, (relied, (calls, (asked, listed)))))))) =
    record { task = task_at n; matter = record { temporary = temporary; name = name; bytes = bytes; names = names; relied = relied }; calls = calls; asked = asked; listed = listed }

-- the shape gives the state again
pub state_shape : (s : State) → state (shape s) ≡ s
state_shape s = λ i. record { task = task_again s.task i; matter = s.matter; calls = s.calls; asked = s.asked; listed = s.listed }

-- a code of a text
abbrev coded_text : Coded (List ℕ)
coded_text = coded_list coded_ℕ

-- and of names
abbrev coded_names : Coded (List (List ℕ))
coded_names = coded_list coded_text

-- a state is coded by its shape, from which it can be had again
abbrev pub coded_state : Coded State
coded_state =
    code_by Shape
    (coded× coded_ℕ (coded× coded_text (coded× coded_text (coded× coded_text (coded× coded_names (coded× coded_names (coded× (coded_list coded_call) (coded× (coded_option coded_call) coded_names))))))))
    shape state state_shape
