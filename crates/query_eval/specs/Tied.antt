-- Keys compare as equal where they are the same.
use Rattle.std.specs.Prelude.{◌≡◌, Option, Some, None, ℤ, refl}
use Rattle.std.specs.Cmp.Lexicographic.{pointwise}
use Rattle.std.specs.Option.{option_cmp, option_eq}
use Rattle.std.specs.Ordering.{int_cmp, int_eq, eq_by_cmp}
use Rattle.std.proofs.Common.{◌∙◌}
use Rattle.table_model.proofs.Keys.{tied_keys}
use Rattle.table_model.proofs.SameRows.{same_cells-pointwise}
use Rattle.table_model.specs.Group.{key_cmp}
use Rattle.table_model.specs.State.{Cells}

-- two keys are the same, cell for cell, where neither is below the other
pub keys_tied : (a b : Cells) → pointwise (option_eq int_eq) a b ≡ eq_by_cmp key_cmp a b
keys_tied a b = same_cells-pointwise a b ∙ tied_keys a b

-- two cells are the same where neither is below the other
pub cells_tied : (a b : Option ℤ) → option_eq int_eq a b ≡ eq_by_cmp (option_cmp int_cmp) a b
cells_tied None None = refl
cells_tied None (Some y) = refl
cells_tied (Some x) None = refl
cells_tied (Some x) (Some y) = refl
