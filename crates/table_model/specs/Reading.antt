-- What is read, and what a call that reads it answers where it may run out of memory.
use Rattle.std.specs.Prelude.{◌≡◌, ◌⊎◌, Result, Ok, Err}
use Rattle.table_model.specs.declared.refusal.Refusal.{Refusal}
use Rattle.table_model.specs.declared.refusal.Refusal.TheVariants.{Memory}

-- What a call that grows as it reads returned, seen by view, is what is read; Memory may come in the place of anything.
abbrev pub Reads : {X Y : Type 0} → (X → Y) → Result X Refusal → Result Y Refusal → Type 0
Reads view (Ok x) read = read ≡ Ok (view x)
Reads view (Err e) read = (read ≡ Err e) ⊎ (e ≡ Memory)

infixl 10 ◌>>=◌
-- what is read next, after what was read
abbrev pub ◌>>=◌ : {X Y : Type 0} → Result X Refusal → (X → Result Y Refusal) → Result Y Refusal
Ok x >>= next = next x
Err e >>= next = Err e
