-- Texts compared byte for byte, and names without regard to case.
use Rattle.std.specs.Prelude.{◌≡◌, ℕ, Bool, true, false, IsTrue, ◌↔◌, ◌⊎◌, nat_eq, not, ◌&&◌, ◌||◌, ◌==◌, List, [], ◌∷◌, map}
use Rattle.std.specs.Char.{to_ascii_uppercase, to_ascii_lowercase}
use Rattle.std.specs.Cmp.Lexicographic.{pointwise, same_text as same_as_texts}
use Rattle.std.proofs.lemmas.Bool.{cases_Bool, both_ways, eq-eqb}
use Rattle.std.proofs.lemmas.Bool.Decides.{nat_tests}
use Rattle.std.specs.List.{list_any}
use Rattle.std.proofs.Common.{refl, sym, ap, ◌∙◌, inl, inr, arith}
use Rattle.table_model.specs.Identifier.{folded, same_text}
use Rattle.table_model.specs.Table.{has_name, name_of, are_distinct}
use Rattle.table_model.specs.declared.schema.ColType.{ColType}

-- whether a name comes again is asked of what the names are read from
pub list_any-map : {X Y : Type 0} (p : Y → Bool) (f : X → Y) (xs : List X) → list_any p (map f xs) ≡ list_any (λ x. p (f x)) xs
list_any-map p f [] = refl
list_any-map p f (x ∷ xs) = ap (λ b. p (f x) || b) (list_any-map p f xs)

-- names are distinct where the first doesn't come again and the others are distinct
pub are_distinct-cons : {X : Type 0} (f : X → List ℕ × ColType) (columns rest : List X) (x : X) (again : Bool) → columns ≡ x ∷ rest → again ≡ list_any (λ c. has_name (f x).0 (f c).0) rest →
    are_distinct (map name_of (map f columns)) ≡ (not again && are_distinct (map name_of (map f rest)))
are_distinct-cons {X = X} f columns rest x again cut is =
    ap (λ (cs : List X). are_distinct (map name_of (map f cs))) cut
    ∙ ap (λ b. not b && are_distinct (map name_of (map f rest)))
    (list_any-map (has_name (f x).0) name_of (map f rest) ∙ list_any-map (λ (c : List ℕ × ColType). has_name (f x).0 c.0) f rest ∙ sym is)

-- the library's test of two texts
pub same_text-pointwise : (xs ys : List ℕ) → pointwise nat_eq xs ys ≡ same_text xs ys
same_text-pointwise [] [] = refl
same_text-pointwise [] (y ∷ ys) = refl
same_text-pointwise (x ∷ xs) [] = refl
same_text-pointwise (x ∷ xs) (y ∷ ys) = ap (λ b. (x == y) && b) (same_text-pointwise xs ys)

same_text-refl : (xs : List ℕ) → same_text xs xs ≡ true
same_text-refl [] = refl
same_text-refl (x ∷ xs) = ap (λ b. b && same_text xs xs) (eq-eqb x x refl) ∙ same_text-refl xs

equal_from_same_text : (xs ys : List ℕ) → true ≡ same_text xs ys → xs ≡ ys
equal_from_same_text xs ys same = same_as_texts xs ys (same ∙ sym (same_text-pointwise xs ys))

-- lower case forgets no more than upper case, and upper case no more than lower case
upper-lower : (c : ℕ) → to_ascii_uppercase (to_ascii_lowercase c) ≡ to_ascii_uppercase c
upper-lower c = grind (arith, nat_tests)

lower-upper : (c : ℕ) → to_ascii_lowercase (to_ascii_uppercase c) ≡ to_ascii_lowercase c
lower-upper c = grind (arith, nat_tests)

pub same_folded-lower : (xs ys : List ℕ) (same : Bool) → (IsTrue same ↔ (map to_ascii_lowercase xs ≡ map to_ascii_lowercase ys)) → same ≡ same_text (folded xs) (folded ys)
same_folded-lower xs ys same h = by_test (cases_Bool same) (cases_Bool (same_text (folded xs) (folded ys)))
  where
    all_upper : (zs : List ℕ) → map to_ascii_uppercase (map to_ascii_lowercase zs) ≡ map to_ascii_uppercase zs
    all_upper [] = refl
    all_upper (z ∷ zs) = λ i. upper-lower z i ∷ all_upper zs i

    all_lower : (zs : List ℕ) → map to_ascii_lowercase (map to_ascii_uppercase zs) ≡ map to_ascii_lowercase zs
    all_lower [] = refl
    all_lower (z ∷ zs) = λ i. lower-upper z i ∷ all_lower zs i

    by_test : (same ≡ true) ⊎ (same ≡ false) → (same_text (folded xs) (folded ys) ≡ true) ⊎ (same_text (folded xs) (folded ys) ≡ false) → same ≡ same_text (folded xs) (folded ys)
    by_test (inl s) (inl t) = s ∙ sym t
    by_test (inr s) (inr t) = s ∙ sym t
    by_test (inl s) (inr t) =
        let equal : folded xs ≡ folded ys = sym (all_upper xs) ∙ ap (map to_ascii_uppercase) (h.0 s) ∙ all_upper ys in
        absurd (both_ways _ t (ap (same_text (folded xs)) (sym equal) ∙ same_text-refl (folded xs)))
    by_test (inr s) (inl t) =
        let equal : map to_ascii_lowercase xs ≡ map to_ascii_lowercase ys = sym (all_lower xs) ∙ ap (map to_ascii_lowercase) (equal_from_same_text (folded xs) (folded ys) (sym t)) ∙ all_lower ys in
        absurd (both_ways _ s (h.1 equal))
