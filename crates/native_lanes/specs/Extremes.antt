-- The extreme of the values at some rows.
use Rattle.std.specs.Prelude.{Bool, cond, ℕ, ℤ, List, Option, Some, None}
use Rattle.table_model.specs.Extreme.{further}
use Rattle.table_model.specs.declared.extreme.Extreme.{Extreme}
use Rattle.transpose_order.specs.Mask.{has}
use Rattle.native_lanes.specs.Folds.{fold_to}

-- the least or the greatest of the values at a mask's rows, null over none
abbrev pub extreme_at : Extreme → List Bool → (ℕ → ℤ) → Option ℤ
extreme_at side rows value = fold_to (further side) None 1024 (λ n. cond (has rows n) (Some (value n)) None)
