-- Pairs of masks under way, row by row.
use Rattle.std.specs.Prelude.{◌≡◌, ℕ, Bool, ◌&&◌, nat_lt, List}
use Rattle.table_model.specs.Truth.{is_true, is_false}
use Rattle.table_model.specs.declared.truth.Truth.{Truth}
use Rattle.transpose_order.specs.Mask.{rows_of, has}
use Rattle.query_eval.specs.declared.filter.pair.Pair.{Pair}

-- the rows below k that pass a test
unfoldable pub passing_below : ℕ → (ℕ → Bool) → List Bool
passing_below k test = rows_of (λ n. nat_lt n k && test n)

-- a pair has the rows of a mask below k where a truth value is true, and those where it is false
pub record IsPairBelow (k : ℕ) (mask : List Bool) (t : ℕ → Truth) (pair : Pair) : Type 0 where
  pub yes : pair.yes ≡ passing_below k (λ n. has mask n && is_true (t n))
  pub no : pair.no ≡ passing_below k (λ n. has mask n && is_false (t n))
