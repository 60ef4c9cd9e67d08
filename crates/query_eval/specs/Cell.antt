-- Cells of keys as they are kept.
use Rattle.std.specs.Prelude.{◌≡◌, ◌++◌, ◌∷◌, [], Option, Some, None, ℤ, true, refl}
use Rattle.std.specs.Cmp.{first_so, second_so}
use Rattle.std.specs.Cmp.Lexicographic.{pointwise}
use Rattle.std.specs.Hash as fed
use Rattle.std.specs.Hash.{HashWrites}
use Rattle.std.specs.List.{flat_map}
use Rattle.std.specs.Option.{option_eq}
use Rattle.std.specs.Ordering.{int_eq}
use Rattle.std.proofs.Common.{ap, sym}
use Rattle.std.proofs.lemmas.Bool.{true≢false}
use Rattle.std.proofs.lemmas.Bool.Decides.{Decides-int_eq}
use Rattle.table_model.specs.State.{Cells}
use Rattle.query_eval.specs.declared.grouping.cell.Content.{Content}
use Rattle.query_eval.specs.declared.grouping.cell.Content.TheVariants.{Null, Short, Long}

-- the number that a cell keeps, if there is one
abbrev pub number_in : Content → Option ℤ
number_in Null = None
number_in (Short n) = Some n
number_in (Long n) = Some n.value

-- what a cell feeds a hasher
abbrev pub cell_fed : Option ℤ → HashWrites
cell_fed None = fed.u8 0
cell_fed (Some n) = fed.i128 n

-- cells that are the same feed it alike
pub cells_fed : (a b : Option ℤ) → option_eq int_eq a b ≡ true → cell_fed a ≡ cell_fed b
cells_fed None None e = refl
cells_fed None (Some y) e = cc
cells_fed (Some x) None e = cc
cells_fed (Some x) (Some y) e = ap fed.i128 ((Decides-int_eq x y).0 e)

-- what a key feeds a hasher: its cells, from the left
abbrev pub key_fed : Cells → HashWrites
key_fed cells = flat_map cell_fed cells

-- keys that are the same feed it alike
pub keys_fed : (a b : Cells) → pointwise (option_eq int_eq) a b ≡ true → key_fed a ≡ key_fed b
keys_fed [] [] e = refl
keys_fed [] (y ∷ ys) e = absurd (true≢false (sym e))
keys_fed (x ∷ xs) [] e = absurd (true≢false (sym e))
keys_fed (x ∷ xs) (y ∷ ys) e = λ i. cells_fed x y (first_so (option_eq int_eq x y) (pointwise (option_eq int_eq) xs ys) e) i ++ keys_fed xs ys (second_so (option_eq int_eq x y) (pointwise (option_eq int_eq) xs ys) e) i
