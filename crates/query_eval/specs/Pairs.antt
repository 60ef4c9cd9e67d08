-- Truth values of a vector's rows as pairs of masks.
use Rattle.std.specs.Prelude.{ℕ, Bool, ◌&&◌, not, List}
use Rattle.table_model.specs.Truth.{is_true, is_false}
use Rattle.table_model.specs.declared.truth.Truth.{Truth}
use Rattle.transpose_order.specs.Mask.{rows_of, has}

-- the rows of a mask where a truth value is true
unfoldable pub yes_of : List Bool → (ℕ → Truth) → List Bool
yes_of mask t = rows_of (λ n. has mask n && is_true (t n))

-- the rows of a mask where a truth value is false
unfoldable pub no_of : List Bool → (ℕ → Truth) → List Bool
no_of mask t = rows_of (λ n. has mask n && is_false (t n))

-- the rows of a mask that another does not have
abbrev pub rows_except : List Bool → List Bool → List Bool
rows_except mask other = rows_of (λ n. has mask n && not (has other n))
