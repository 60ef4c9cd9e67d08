-- The history of a run over calls that were told.
use Rattle.std.specs.Prelude.{◌≡◌, ℕ, List, ◌++◌, take, Option, Some, None}
use Rattle.folder_model.specs.Call.{Call}
use Rattle.folder_protocol.specs.Note.{calls_of}
use Rattle.folder_turns.specs.Calls.{call_asked, answered, calls_after}
use Rattle.folder_turns.specs.declared.request.Answer.TheVariants.{Failed}
use Rattle.folder_turns.specs.declared.request.Request.{Request}
use Rattle.folder_turns.specs.declared.request.Told.{Told}
use Rattle.folder_turns.specs.declared.replay.Fault.{Fault}
use Rattle.folder_turns.specs.declared.replay.Why.{Why}
use Rattle.folder_turns.specs.declared.replay.Why.TheVariants.{Asks, Fails}
use Rattle.folder_turns.specs.declared.replay.Stop.{Stop}

-- with the call at which a run has stopped, if that is asked for
abbrev pub stopped : List ℕ → Why → List Call → List Call
stopped whole (Asks request) calls = answered (call_asked whole request) Failed ++ calls
stopped whole (Fails fault) calls = calls

-- the calls of a run, which has made so many of the calls that were told again
abbrev pub run_history : List ℕ → List Told → List Call → ℕ → Option Stop → List Call
run_history whole told before at None = calls_after whole (take at told) before
run_history whole told before at (Some stop) = calls_of stop.since.noted ++ stopped whole stop.why (calls_after whole (take at told) before)

-- a run has stopped, since it is not known what it asks for, for this reason
abbrev pub StopsFor : Option Stop → Fault → Type 0
StopsFor None fault = ⊥
StopsFor (Some stop) fault = stop.why ≡ Fails fault

-- a run has stopped at this call, which has no answer yet
abbrev pub AsksFor : Option Stop → Request → Type 0
AsksFor None request = ⊥
AsksFor (Some stop) request = stop.why ≡ Asks request
