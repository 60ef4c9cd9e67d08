-- How a call that may run out of memory answers: the value or the refusal that its meaning gives, or Memory with nothing changed.
use Rattle.std.specs.Prelude.{◌≡◌, ◌⊎◌, Option, Some, None, Result, Ok, Err, IsOk}
use Rattle.table_model.specs.declared.refusal.Refusal.{Refusal}
use Rattle.table_model.specs.declared.refusal.Refusal.TheVariants.{Memory}

-- What was returned, seen by view, is what is given; or it is Memory where a value is given, so that Memory comes last.
abbrev pub Gives : {X Y : Type 0} → (X → Y) → Result X Refusal → Result Y Refusal → Type 0
Gives view (Ok x) given = given ≡ Ok (view x)
Gives view (Err e) given = (given ≡ Err e) ⊎ ((e ≡ Memory) × IsOk given)

-- The same of a call that changes a state: a value comes with the state afterwards, and a refused call leaves the state.
abbrev pub Acts : {X Y S : Type 0} → (X → Y) → S → Result X Refusal → S → Result (Y × S) Refusal → Type 0
Acts view old (Ok x) new given = given ≡ Ok (view x, new)
Acts view old (Err e) new given = (new ≡ old) × ((given ≡ Err e) ⊎ ((e ≡ Memory) × IsOk given))

-- Ok, unless there is a fault
abbrev pub unless : Option Refusal → Result (Unit {0}) Refusal
unless None = Ok tt
unless (Some fault) = Err fault
