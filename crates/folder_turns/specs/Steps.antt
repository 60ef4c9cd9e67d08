-- What is said of a step.
use Rattle.folder_turns.specs.declared.request.Request.{Request}
use Rattle.folder_turns.specs.declared.step.Step.{Step}
use Rattle.folder_turns.specs.declared.step.Step.TheVariants.{Asks, Ends}

-- if it asks for a call, that call is so
abbrev pub OnAsks : {T : Type 0} → Step T → (Request → Type 0) → Type 0
OnAsks (Asks request) P = P request
OnAsks (Ends outcome) P = Unit {0}

-- if it is an outcome, that is so
abbrev pub OnEnds : {T : Type 0} → Step T → (T → Type 0) → Type 0
OnEnds (Asks request) P = Unit {0}
OnEnds (Ends outcome) P = P outcome
