-- What is said of a program that is run over calls that were told, if it may run after those before.
use Rattle.std.specs.Prelude.{◌≡◌, ◌++◌, ◌∷◌, [], ℕ, true, List}
use Rattle.folder_model.specs.Call.{Call, can_settle}
use Rattle.folder_model.specs.Parts.{Parts}
use Rattle.folder_model.specs.Turn.{InTurn, AllInTurn}
use Rattle.folder_protocol.specs.Goes.{GoesInTurn}
use Rattle.folder_turns.specs.Calls.{call_asked, answered, calls_after}
use Rattle.folder_turns.specs.Straying.{HasStrayed}
use Rattle.folder_turns.specs.declared.request.Answer.{Answer}
use Rattle.folder_turns.specs.declared.request.Request.{Request}
use Rattle.folder_turns.specs.declared.request.Told.{Told}

-- The call that is asked for is in turn after those told, if no sync of the folder has failed before.
abbrev pub AsksAfter : (Parts → Type 0) → List ℕ → List Call → List Call → Request → Type 0
AsksAfter may whole before told request = (parts : Parts) → can_settle before ≡ true → AllInTurn parts before → may parts → InTurn parts told (call_asked whole request)

-- Told with whatever answer, all calls are in turn, if no sync of the folder has failed by then.
abbrev pub GoesOnWhatever : (Parts → Type 0) → List ℕ → List Call → List Told → Request → Type 0
GoesOnWhatever may whole before told request =
    (parts : Parts) → can_settle (calls_after whole told before) ≡ true → AllInTurn parts before → may parts
    → (answer : Answer) → AllInTurn parts (calls_after whole (told ++ record { request = request; answer = answer } ∷ []) before)

-- Answered in whatever way, the call that is asked for is in turn, and so are all before it, if no sync of the folder has failed by then.
abbrev pub IsInTurnWhatever : (Parts → Type 0) → List ℕ → List Call → List Call → Request → Type 0
IsInTurnWhatever may whole before told request =
    (parts : Parts) → can_settle told ≡ true → AllInTurn parts before → may parts → (answer : Answer) → AllInTurn parts (answered (call_asked whole request) answer ++ told)

-- The calls of a run are in turn, and what it comes to says of them what it is to say.
abbrev pub RunSays : {T : Type 0} → (Parts → Type 0) → (T → Parts → List Call → Type 0) → List Call → T → List Call → Type 0
RunSays may says before outcome calls = (parts : Parts) → may parts → GoesInTurn parts before calls × says outcome parts calls

-- A run strays from the calls that were told. If the program may run after the calls before, the run's calls are in turn, and its outcome
-- says of all calls what the program says.
abbrev pub HasRunAstray : {T : Type 0} → (Parts → List Call → Type 0) → (T → Parts → List Call → List Call → Type 0) → List ℕ → List Call → List Call → Type 0
HasRunAstray may_run says whole before told = HasStrayed (RunSays (λ parts. may_run parts before) (λ outcome parts calls. says outcome parts before calls) before) whole before told
