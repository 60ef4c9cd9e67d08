-- Texts that differ from another first at the same place.
use Rattle.std.proofs.Common.{◌≡◌, ℕ, zero, suc, ◌+◌, ◌<◌, Bool, true, false, cond, eqb, List, [], ◌∷◌, ◌++◌, length, get_or, take, drop, Result, Ok, refl, sym, ap, ◌∙◌, append_assoc, arith}
use Rattle.std.proofs.lemmas.Bool.{and_parts, eqb-true, eq-eqb}
use Rattle.std.proofs.lemmas.List.{append-nil, length-append}
use Rattle.table_model.specs.declared.refusal.Refusal.{Refusal}
use Rattle.segment_core.specs.Format.{Format, IsLawful, spell_all, valid_all}
use Rattle.segment_core.proofs.FormatLaws.{ok_is}
use Rattle.segment_core.proofs.Writings.{spell_all-at}
use Rattle.column_file.specs.Files.{first_difference}
use Rattle.column_file.specs.Differing.{DifferAlike}

-- ---- two texts

same_front : (f a b : List ℕ) → first_difference (f ++ a) (f ++ b) ≡ length f + first_difference a b
same_front [] a b = omega arith
same_front (x ∷ f) a b =
    let step : first_difference ((x ∷ f) ++ a) ((x ∷ f) ++ b) ≡ suc (first_difference (f ++ a) (f ++ b)) = ap (λ (t : Bool). cond t (suc (first_difference (f ++ a) (f ++ b))) 0) (eq-eqb x x refl) in
    let rest = same_front f a b in
    omega (arith, step, rest)

-- a text that doesn't begin another differs from it inside
differs_inside : (a w q r : List ℕ) → ((s : List ℕ) → a ≡ w ++ s → ⊥) → (first_difference a (w ++ q) ≡ first_difference a (w ++ r)) × (first_difference a (w ++ q) < length w)
differs_inside a [] q r other = absurd (other a refl)
differs_inside [] (x ∷ w) q r other = (refl, omega arith)
differs_inside (y ∷ a) (x ∷ w) q r other =
    elim (eqb y x) as (λ t. eqb y x ≡ t → (cond t (suc (first_difference a (w ++ q))) 0 ≡ cond t (suc (first_difference a (w ++ r))) 0) × (cond t (suc (first_difference a (w ++ q))) 0 < suc (length w))) [
      | true ↦ λ tied.
          let h = differs_inside a w q r (λ s same. other s (λ i. eqb-true y x tied i ∷ same i)) in
          (ap suc h.0, omega (arith, h.1))
      | false ↦ λ tied. (refl, omega arith)
    ] refl

-- the same text before, and others after
pub alike_within : (f s t u x y z : List ℕ) → DifferAlike x y z → DifferAlike (f ++ (x ++ s)) (f ++ (y ++ t)) (f ++ (z ++ u))
alike_within f s t u x y z alike = λ p q r.
    let h = alike (s ++ p) (t ++ q) (u ++ r) in
    let first : first_difference ((f ++ (x ++ s)) ++ p) ((f ++ (y ++ t)) ++ q) ≡ length f + first_difference (x ++ (s ++ p)) (y ++ (t ++ q)) = (λ i. first_difference (parts f x s p i) (parts f y t q i)) ∙ same_front f (x ++ (s ++ p)) (y ++ (t ++ q)) in
    let second : first_difference ((f ++ (x ++ s)) ++ p) ((f ++ (z ++ u)) ++ r) ≡ length f + first_difference (x ++ (s ++ p)) (z ++ (u ++ r)) = (λ i. first_difference (parts f x s p i) (parts f z u r i)) ∙ same_front f (x ++ (s ++ p)) (z ++ (u ++ r)) in
    let place = h.0 in
    let here = h.1 in
    let there = h.2 in
    let long_y : length (f ++ (y ++ t)) ≡ length f + (length y + length t) = length-append f (y ++ t) ∙ ap (λ (n : ℕ). length f + n) (length-append y t) in
    let long_z : length (f ++ (z ++ u)) ≡ length f + (length z + length u) = length-append f (z ++ u) ∙ ap (λ (n : ℕ). length f + n) (length-append z u) in
    (omega (arith, first, second, place), omega (arith, first, here, long_y), omega (arith, first, there, long_z))
  where
    parts : (f x s p : List ℕ) → (f ++ (x ++ s)) ++ p ≡ f ++ (x ++ (s ++ p))
    parts f x s p = append_assoc f (x ++ s) p ∙ ap (λ (t : List ℕ). f ++ t) (append_assoc x s p)

pub alike_before : (f x y z : List ℕ) → DifferAlike x y z → DifferAlike (f ++ x) (f ++ y) (f ++ z)
alike_before f x y z alike =
    let whole : DifferAlike (f ++ (x ++ [])) (f ++ (y ++ [])) (f ++ (z ++ [])) = alike_within f [] [] [] x y z alike in
    rw (none x, none y, none z) whole
  where
    none : (t : List ℕ) → f ++ t ≡ f ++ (t ++ [])
    none t = ap (λ (ts : List ℕ). f ++ ts) (sym (append-nil t))

-- two values of a format
pub alike_from : {A : Type 0} (f : Format A) → IsLawful f → (x y : A) → f.valid x ≡ true → f.valid y ≡ true → (x ≡ y → ⊥) → DifferAlike (f.spell x) (f.spell y) (f.spell y)
alike_from {A = A} f law x y valid_x valid_y other = λ p q r.
    let h = differs_inside (f.spell x ++ p) (f.spell y) q r (λ s same. other (value_is x y p s (sym (law.again 0 x p valid_x) ∙ ap (f.read 0) same ∙ law.again 0 y s valid_y))) in
    (h.0, h.1, h.1)
  where
    read : A → List ℕ → Result (A × List ℕ) Refusal
    read x rest = Ok (x, rest)

    value_is : (x y : A) (p s : List ℕ) → read x p ≡ read y s → x ≡ y
    value_is x y p s e = ap (λ (t : A × List ℕ). t.0) (ok_is (x, p) (y, s) e)

-- ---- lists

spell_at : {A : Type 0} (item : List A → Format A) (xs : List A) (k : ℕ) (d : A) → k < length xs
    → spell_all item [] xs ≡ spell_all item [] (take k xs) ++ ((item (take k xs)).spell (get_or xs k d) ++ spell_all item (take k xs ++ get_or xs k d ∷ []) (drop (k + 1) xs))
spell_at {A = A} item xs k d below =
    spell_all-at item xs k d below
    ∙ append_assoc (spell_all item [] (take k xs)) ((item (take k xs)).spell (get_or xs k d)) (spell_all item (take k xs ++ get_or xs k d ∷ []) (drop (k + 1) xs))

-- lists that are the same up to a place, where their items differ
pub all_alike : {A : Type 0} (item : List A → Format A) (k : ℕ) (d : A) (xs ys zs : List A) → k < length xs → k < length ys → k < length zs → take k ys ≡ take k xs → take k zs ≡ take k xs
    → DifferAlike ((item (take k xs)).spell (get_or xs k d)) ((item (take k xs)).spell (get_or ys k d)) ((item (take k xs)).spell (get_or zs k d)) → DifferAlike (spell_all item [] xs) (spell_all item [] ys) (spell_all item [] zs)
all_alike {A = A} item k d xs ys zs in_xs in_ys in_zs some others alike =
    let rest : List A → List ℕ = λ ws. spell_all item (take k ws ++ get_or ws k d ∷ []) (drop (k + 1) ws) in
    let front = take k xs in
    let text : List A → List ℕ = λ ws. spell_all item [] front ++ ((item front).spell (get_or ws k d) ++ rest ws) in
    let first : spell_all item [] xs ≡ text xs = spell_at item xs k d in_xs in
    let second : spell_all item [] ys ≡ text ys = spell_at item ys k d in_ys ∙ ap (λ (t : List A). spell_all item [] t ++ ((item t).spell (get_or ys k d) ++ rest ys)) some in
    let third : spell_all item [] zs ≡ text zs = spell_at item zs k d in_zs ∙ ap (λ (t : List A). spell_all item [] t ++ ((item t).spell (get_or zs k d) ++ rest zs)) others in
    let whole : DifferAlike (text xs) (text ys) (text zs) = alike_within (spell_all item [] front) (rest xs) (rest ys) (rest zs) ((item front).spell (get_or xs k d)) ((item front).spell (get_or ys k d)) ((item front).spell (get_or zs k d)) alike in
    rw (first, second, third) whole

-- a valid item of a valid list
pub valid_at : {A : Type 0} (item : List A → Format A) (front xs : List A) (k : ℕ) (d : A) → valid_all item front xs ≡ true → k < length xs → (item (front ++ take k xs)).valid (get_or xs k d) ≡ true
unfolding valid_all
valid_at item front [] k d valid below = absurd (omega (arith, below))
valid_at {A = A} item front (x ∷ xs) zero d valid below =
    let v = and_parts ((item front).valid x) (valid_all item (front ++ x ∷ []) xs) valid in
    ap (λ (t : List A). (item t).valid x) (append-nil front) ∙ v.0
valid_at {A = A} item front (x ∷ xs) (suc k) d valid below =
    let v = and_parts ((item front).valid x) (valid_all item (front ++ x ∷ []) xs) valid in
    ap (λ (t : List A). (item t).valid (get_or xs k d)) (sym (append_assoc front (x ∷ []) (take k xs))) ∙ valid_at item (front ++ x ∷ []) xs k d v.1 (omega (arith, below))
