-- A fold over the numbers below a bound.
use Rattle.std.specs.Prelude.{ℕ, zero, suc}

-- f 0, f 1 and so on up to f (k - 1) joined, beginning with the value that represents nothing
unfoldable pub fold_to : {X : Type 0} → (X → X → X) → X → ℕ → (ℕ → X) → X
fold_to join none zero f = none
fold_to join none (suc k) f = join (fold_to join none k f) (f k)
