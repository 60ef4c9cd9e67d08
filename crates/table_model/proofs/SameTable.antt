-- The test of equality of schemas tells it.
use Rattle.std.specs.Prelude.{◌≡◌, ◌≢◌, ℕ, suc, true, false, ◌&&◌, ◌==◌, List, [], ◌∷◌, length}
use Rattle.std.proofs.Common.{refl, ap, ◌∙◌, arith}
use Rattle.std.specs.List.{list_all, zip}
use Rattle.std.proofs.Math.Bool.{and-false}
use Rattle.std.proofs.lemmas.Bool.{and_parts}
use Rattle.std.proofs.lemmas.Bool.Decides.{Decides-eqb}
use Rattle.table_model.specs.Identifier.{same_text}
use Rattle.table_model.specs.Table.{Table, ColumnShape, same_type, same_column, same_columns, same_table}
use Rattle.table_model.specs.declared.schema.ColType.{ColType}
use Rattle.table_model.specs.declared.schema.ColType.TheVariants.{TinyInt, SmallInt, Integer, BigInt}

pub same_columns-lengths : (xs ys : List ColumnShape) → length xs ≢ length ys → same_columns xs ys ≡ false
same_columns-lengths [] [] apart = absurd (apart refl)
same_columns-lengths [] (y ∷ ys) apart = refl
same_columns-lengths (x ∷ xs) [] apart = refl
same_columns-lengths (x ∷ xs) (y ∷ ys) apart = ap (λ b. same_column x y && b) (same_columns-lengths xs ys (λ e. apart (ap suc e))) ∙ and-false _

-- columns are the same pair by pair
pub same_columns-zip : (xs ys : List ColumnShape) → length xs ≡ length ys → list_all (λ pair. same_column pair.0 pair.1) (zip xs ys) ≡ same_columns xs ys
same_columns-zip [] [] same = refl
same_columns-zip [] (y ∷ ys) same = absurd (omega (arith, same))
same_columns-zip (x ∷ xs) [] same = absurd (omega (arith, same))
same_columns-zip (x ∷ xs) (y ∷ ys) same = ap (λ b. same_column x y && b) (same_columns-zip xs ys (omega (arith, same)))

pub one_text : (xs ys : List ℕ) → same_text xs ys ≡ true → xs ≡ ys
one_text [] [] e = refl
one_text [] (y ∷ ys) e = cc
one_text (x ∷ xs) [] e = cc
one_text (x ∷ xs) (y ∷ ys) e =
    let both = and_parts (x == y) (same_text xs ys) e in
    let here = (Decides-eqb x y).0 both.0 in
    let rest = one_text xs ys both.1 in λ i. here i ∷ rest i

pub itself_text : (xs : List ℕ) → same_text xs xs ≡ true
itself_text [] = refl
itself_text (x ∷ xs) = ap (λ b. b && same_text xs xs) ((Decides-eqb x x).1 refl) ∙ itself_text xs

one_type : (a b : ColType) → same_type a b ≡ true → a ≡ b
one_type TinyInt TinyInt e = refl
one_type TinyInt SmallInt e = cc
one_type TinyInt Integer e = cc
one_type TinyInt BigInt e = cc
one_type SmallInt TinyInt e = cc
one_type SmallInt SmallInt e = refl
one_type SmallInt Integer e = cc
one_type SmallInt BigInt e = cc
one_type Integer TinyInt e = cc
one_type Integer SmallInt e = cc
one_type Integer Integer e = refl
one_type Integer BigInt e = cc
one_type BigInt TinyInt e = cc
one_type BigInt SmallInt e = cc
one_type BigInt Integer e = cc
one_type BigInt BigInt e = refl

itself_type : (a : ColType) → same_type a a ≡ true
itself_type TinyInt = refl
itself_type SmallInt = refl
itself_type Integer = refl
itself_type BigInt = refl

one_list : (xs ys : List ColumnShape) → same_columns xs ys ≡ true → xs ≡ ys
one_list [] [] e = refl
one_list [] (y ∷ ys) e = cc
one_list (x ∷ xs) [] e = cc
one_list (x ∷ xs) (y ∷ ys) e =
    let both = and_parts (same_column x y) (same_columns xs ys) e in
    let parts = and_parts (same_text x.name y.name) (same_type x.column_type y.column_type) both.0 in
    let name = one_text x.name y.name parts.0 in
    let of = one_type x.column_type y.column_type parts.1 in
    let rest = one_list xs ys both.1 in λ i. record { name = name i; column_type = of i } ∷ rest i

itself_list : (xs : List ColumnShape) → same_columns xs xs ≡ true
itself_list [] = refl
itself_list (x ∷ xs) = (λ i. (itself_text x.name i && itself_type x.column_type i) && same_columns xs xs) ∙ itself_list xs

-- schemas that pass the test are one
pub one_table : (s t : Table) → same_table s t ≡ true → s ≡ t
unfolding same_table
one_table s t e =
    let both = and_parts (same_text s.name t.name) (same_columns s.columns t.columns) e in
    let name = one_text s.name t.name both.0 in
    let columns = one_list s.columns t.columns both.1 in λ i. record { name = name i; columns = columns i }

-- a schema passes the test beside itself
pub itself_table : (s : Table) → same_table s s ≡ true
unfolding same_table
itself_table s = ap (λ b. b && same_columns s.columns s.columns) (itself_text s.name) ∙ itself_list s.columns
