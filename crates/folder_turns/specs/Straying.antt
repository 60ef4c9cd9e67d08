-- How a run strays from the calls that were told.
use Rattle.std.specs.Prelude.{◌≡◌, ◌⊎◌, ◌<◌, ◌++◌, ℕ, false, List, get_or, take, length, Result, IfErr}
use Rattle.folder_model.specs.Call.{Call, Settled, can_settle}
use Rattle.folder_turns.specs.Calls.{call_asked, answered, calls_after}
use Rattle.folder_turns.specs.declared.request.Request.{Request}
use Rattle.folder_turns.specs.declared.request.Answer.TheVariants.{Failed}
use Rattle.folder_turns.specs.declared.request.Told.{Told}
use Rattle.folder_turns.specs.declared.replay.Fault.{Fault}
use Rattle.folder_turns.specs.declared.replay.Fault.TheVariants.{Strayed}

-- The call at this place among those that were told is another one; or it is a sync of the folder, and one had failed before.
abbrev pub IsOther : List ℕ → List Told → List Call → ℕ → Call → Type 0
IsOther whole list before at call =
    (told : Told) → get_or list at told ≡ told → call_asked whole told.request ≡ call
    → (call ≡ Settled false) × (can_settle (calls_after whole (take at list) before) ≡ false)

-- No call that can be asked for is this one: it writes what isn't the end of the part.
abbrev pub IsNoRequest : List ℕ → Call → Type 0
IsNoRequest whole call = (request : Request) → call_asked whole request ≡ call → ⊥

-- After as many of the calls that were told a run made one that isn't the next of them, or that can't be asked for; and others after it.
abbrev pub TurnsAway : List ℕ → List Told → List Call → ℕ → List Call → Type 0
TurnsAway whole list before at calls =
    (call : Call) × (since : List Call) × (calls ≡ since ++ (answered call Failed ++ calls_after whole (take at list) before))
    × (((at < length list) × IsOther whole list before at call) ⊎ IsNoRequest whole call)

-- It ended when it had made only as many of them.
abbrev pub EndsEarly : List ℕ → List Told → List Call → ℕ → List Call → Type 0
EndsEarly whole list before at calls = (at < length list) × (calls ≡ calls_after whole (take at list) before)

-- A run over calls that were told, after those before, has come to an outcome that says this of its calls, and they are not those told.
pub record Strays {T : Type 0} (says : T → List Call → Type 0) (whole : List ℕ) (before told : List Call) : Type 0 where
  pub list : List Told
  pub is_told : calls_after whole list before ≡ told
  pub outcome : T
  pub calls : List Call
  pub said : says outcome calls
  pub at : ℕ
  pub strays : EndsEarly whole list before at calls ⊎ TurnsAway whole list before at calls

-- There is such a run.
abbrev pub HasStrayed : {T : Type 0} → (T → List Call → Type 0) → List ℕ → List Call → List Call → Type 0
HasStrayed says whole before told = ∥ Strays says whole before told ∥₁

-- if it is not known what is asked for since a run has strayed, this is so
abbrev pub IfStrayed : {X : Type 0} → Result X Fault → Type 0 → Type 0
IfStrayed result P = IfErr result (λ fault. fault ≡ Strayed → P)
