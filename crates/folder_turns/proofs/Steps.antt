-- What comes of a run.
use Rattle.std.proofs.Common.{◌≡◌, sym, ◌∙◌, ap, subst, ℕ, List, ◌++◌, take, Option, Some, Result, Ok, Err, IfOk}
use Rattle.folder_model.specs.Call.{Call}
use Rattle.folder_model.specs.Parts.{Parts}
use Rattle.folder_model.specs.Turn.{AllInTurn}
use Rattle.folder_protocol.specs.Goes.{GoesInTurn}
use Rattle.folder_turns.specs.declared.request.Request.{Request}
use Rattle.folder_turns.specs.declared.request.Answer.TheVariants as answers
use Rattle.folder_turns.specs.declared.step.Step.{Step}
use Rattle.folder_turns.specs.declared.step.Step.TheVariants.{Asks, Ends}
use Rattle.folder_protocol.specs.Note.{calls_of}
use Rattle.folder_turns.specs.declared.replay.Stop.{Stop}
use Rattle.folder_turns.specs.declared.replay.Why.{Why}
use Rattle.folder_turns.specs.declared.replay.Why.TheVariants as why
use Rattle.folder_turns.specs.declared.request.Told.{Told}
use Rattle.folder_turns.specs.Calls.{call_asked, answered, calls_after}
use Rattle.folder_turns.specs.Run.{stopped, run_history}
use Rattle.folder_turns.specs.Steps.{OnAsks, OnEnds}
use Rattle.folder_turns.proofs.Runs.{in_turn_before}

-- what is said of the call that is asked for says more
pub asks_more : {T E : Type 0} (r : Result (Step T) E) (P Q : Request → Type 0) → IfOk r (λ step. OnAsks step P) → ((request : Request) → P request → Q request) → IfOk r (λ step. OnAsks step Q)
asks_more (Ok (Asks request)) P Q so more = more request so
asks_more (Ok (Ends outcome)) P Q so more = tt
asks_more (Err e) P Q so more = tt

-- and of the outcome
pub ends_more : {T E : Type 0} (r : Result (Step T) E) (P Q : T → Type 0) → IfOk r (λ step. OnEnds step P) → ((outcome : T) → P outcome → Q outcome) → IfOk r (λ step. OnEnds step Q)
ends_more (Ok (Asks request)) P Q so more = tt
ends_more (Ok (Ends outcome)) P Q so more = more outcome so
ends_more (Err e) P Q so more = tt

-- a run that has stopped at a call, and made all others that were told
pub stops_at : (whole : List ℕ) (ts : List Told) (before calls : List Call) (at : ℕ) (some : Option Stop) (stop : Stop) (request : Request) → some ≡ Some stop → stop.why ≡ why.Asks request
    → calls_after whole (take at ts) before ≡ calls → (since : List Call) × (run_history whole ts before at some ≡ since ++ (answered (call_asked whole request) answers.Failed ++ calls))
stops_at whole ts before calls at some stop request is asks all = (
  calls_of stop.since.noted,
  ap (λ (s : Option Stop). run_history whole ts before at s) is
      ∙ ap (λ (w : Why). calls_of stop.since.noted ++ stopped whole w (calls_after whole (take at ts) before)) asks
      ∙ ap (λ (l : List Call). calls_of stop.since.noted ++ (answered (call_asked whole request) answers.Failed ++ l)) all,
)

-- the call at which a run has stopped is in turn, not yet answered
pub run_asks : (parts : Parts) (whole : List ℕ) (request : Request) (before old new calls : List Call) → old ≡ before
    → (since : List Call) × (new ≡ since ++ (answered (call_asked whole request) answers.Failed ++ calls))
    → GoesInTurn parts old new → AllInTurn parts before → AllInTurn parts (answered (call_asked whole request) answers.Failed ++ calls)
run_asks parts whole request before old new calls began (since, is) goes all =
    in_turn_before parts since _ (subst (λ (l : List Call). AllInTurn parts l) is (goes.2 (subst (λ (l : List Call). AllInTurn parts l) (sym began) all)))

-- what a run has come to says what the program says
pub run_ends : {T : Type 0} (may : List Call → Type 0) (says : T → List Call → List Call → Type 0) (end outcome : T) (before old new calls : List Call) → old ≡ before
    → (end ≡ outcome) × (new ≡ calls) → (may old → says outcome old new) → may before → says end before calls
run_ends may says end outcome before old new calls began (same, is) said m =
    subst (λ x. says x before calls) (sym same)
    (subst (λ (l : List Call). says outcome before l) is (subst (λ (l : List Call). says outcome l new) began (said (subst may (sym began) m))))
