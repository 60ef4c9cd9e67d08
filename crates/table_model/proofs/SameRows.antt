-- The tests of equality of rows tell it: each is true exactly where its two values are one.
use Rattle.std.specs.Prelude.{◌≡◌, ◌≢◌, suc, true, false, ◌&&◌, [], ◌∷◌, length, Option, Some, None, ℤ}
use Rattle.std.proofs.Common.{refl, ap, ◌∙◌, arith}
use Rattle.std.specs.Cmp.Lexicographic.{pointwise}
use Rattle.std.specs.Option.{option_eq}
use Rattle.std.specs.Ordering.{int_eq}
use Rattle.std.specs.List.{list_all, zip}
use Rattle.std.proofs.Math.Bool.{and-false}
use Rattle.std.proofs.lemmas.Bool.{and_parts}
use Rattle.std.proofs.lemmas.Bool.Decides.{Decides-int_eq}
use Rattle.table_model.specs.State.{Cells, Batch, same_cell, same_cells, same_rows}

pub same_rows-lengths : (xs ys : Batch) → length xs ≢ length ys → same_rows xs ys ≡ false
same_rows-lengths [] [] apart = absurd (apart refl)
same_rows-lengths [] (y ∷ ys) apart = refl
same_rows-lengths (x ∷ xs) [] apart = refl
same_rows-lengths (x ∷ xs) (y ∷ ys) apart = ap (λ b. same_cells x y && b) (same_rows-lengths xs ys (λ e. apart (ap suc e))) ∙ and-false _

one_cell : (x y : Option ℤ) → same_cell x y ≡ true → x ≡ y
one_cell None None e = refl
one_cell None (Some y) e = cc
one_cell (Some x) None e = cc
one_cell (Some x) (Some y) e = ap Some ((Decides-int_eq x y).0 e)

itself_cell : (x : Option ℤ) → same_cell x x ≡ true
itself_cell None = refl
itself_cell (Some x) = (Decides-int_eq x x).1 refl

-- rows that pass the test are one row
pub one_row : (xs ys : Cells) → same_cells xs ys ≡ true → xs ≡ ys
one_row [] [] e = refl
one_row [] (y ∷ ys) e = cc
one_row (x ∷ xs) [] e = cc
one_row (x ∷ xs) (y ∷ ys) e =
    let both = and_parts (same_cell x y) (same_cells xs ys) e in
    let here = one_cell x y both.0 in
    let rest = one_row xs ys both.1 in λ i. here i ∷ rest i

-- a row passes the test beside itself
pub itself_row : (xs : Cells) → same_cells xs xs ≡ true
itself_row [] = refl
itself_row (x ∷ xs) = ap (λ b. b && same_cells xs xs) (itself_cell x) ∙ itself_row xs

-- rows that pass the test are one list
pub one_batch : (xs ys : Batch) → same_rows xs ys ≡ true → xs ≡ ys
one_batch [] [] e = refl
one_batch [] (y ∷ ys) e = cc
one_batch (x ∷ xs) [] e = cc
one_batch (x ∷ xs) (y ∷ ys) e =
    let both = and_parts (same_cells x y) (same_rows xs ys) e in
    let here = one_row x y both.0 in
    let rest = one_batch xs ys both.1 in λ i. here i ∷ rest i

-- a list of rows passes the test beside itself
pub itself_batch : (xs : Batch) → same_rows xs xs ≡ true
itself_batch [] = refl
itself_batch (x ∷ xs) = ap (λ b. b && same_rows xs xs) (itself_row x) ∙ itself_batch xs

-- the library's test of two rows
pub same_cells-pointwise : (xs ys : Cells) → pointwise (option_eq int_eq) xs ys ≡ same_cells xs ys
same_cells-pointwise [] [] = refl
same_cells-pointwise [] (y ∷ ys) = refl
same_cells-pointwise (x ∷ xs) [] = refl
same_cells-pointwise (x ∷ xs) (y ∷ ys) = ap (λ b. b && pointwise (option_eq int_eq) xs ys) (cell x y) ∙ ap (λ b. same_cell x y && b) (same_cells-pointwise xs ys)
  where
    cell : (x y : Option ℤ) → option_eq int_eq x y ≡ same_cell x y
    cell None None = refl
    cell None (Some y) = refl
    cell (Some x) None = refl
    cell (Some x) (Some y) = refl

-- rows are the same pair by pair
pub same_rows-zip : (a b : Batch) → length a ≡ length b → list_all (λ pair. same_cells pair.0 pair.1) (zip a b) ≡ same_rows a b
same_rows-zip [] [] same = refl
same_rows-zip [] (y ∷ ys) same = absurd (omega (arith, same))
same_rows-zip (x ∷ xs) [] same = absurd (omega (arith, same))
same_rows-zip (x ∷ xs) (y ∷ ys) same = ap (λ b. same_cells x y && b) (same_rows-zip xs ys (omega (arith, same)))
