-- Lists that have the values of two fronts.
use Rattle.std.proofs.Common.{◌≡◌, ℕ, ◌+◌, ◌<◌, Bool, true, false, ◌||◌, List, [], ◌∷◌, ◌++◌, length, get_or, take, drop, ℤ, refl, sym, ap, ◌∙◌}
use Rattle.std.specs.List.{list_any}
use Rattle.std.specs.Ordering.{int_eq}
use Rattle.std.proofs.lemmas.List.{take_more}
use Rattle.std.proofs.lemmas.List.Folds.{list_any-append}
use Rattle.partial_answers.specs.Kept.{HasValuesOf}

by_first : (a b v : Bool) → ((a || b) || (v || false)) ≡ ((a || (v || false)) || b)
by_first true b v = refl
by_first false true v = or-true v
  where
    or-true : (b : Bool) → true ≡ ((b || false) || true)
    or-true true = refl
    or-true false = refl
by_first false false v = or-false v
  where
    or-false : (b : Bool) → (b || false) ≡ ((b || false) || false)
    or-false true = refl
    or-false false = refl

by_second : (a b v : Bool) → ((a || b) || (v || false)) ≡ (a || (b || (v || false)))
by_second true b v = refl
by_second false b v = refl

by_both : (a b v : Bool) → ((a || b) || (v || false)) ≡ ((a || (v || false)) || (b || (v || false)))
by_both true b v = refl
by_both false b true = or-true b
  where
    or-true : (b : Bool) → (b || true) ≡ true
    or-true true = refl
    or-true false = refl
by_both false b false = refl

module _ (xs ys both next : List ℤ) (i j : ℕ) (v d : ℤ) (h : HasValuesOf both (take i xs) (take j ys)) (is : next ≡ both ++ v ∷ []) where
  now : (z : ℤ) → list_any (int_eq z) next ≡ ((list_any (int_eq z) (take i xs) || list_any (int_eq z) (take j ys)) || (int_eq z v || false))
  now z = ap (list_any (int_eq z)) is ∙ list_any-append (int_eq z) both (v ∷ []) ∙ ap (λ b. b || (int_eq z v || false)) (h z)

  front : (l : List ℤ) (k : ℕ) → k < length l → v ≡ get_or l k d → (z : ℤ) → list_any (int_eq z) (take (k + 1) l) ≡ (list_any (int_eq z) (take k l) || (int_eq z v || false))
  front l k lt at z = ap (list_any (int_eq z)) (take_more l k d lt) ∙ list_any-append (int_eq z) (take k l) (get_or l k d ∷ []) ∙ ap (λ w. list_any (int_eq z) (take k l) || (int_eq z w || false)) (sym at)

  pub first_more : i < length xs → v ≡ get_or xs i d → HasValuesOf next (take (i + 1) xs) (take j ys)
  first_more lt at z = now z ∙ by_first (list_any (int_eq z) (take i xs)) (list_any (int_eq z) (take j ys)) (int_eq z v) ∙ ap (λ b. b || list_any (int_eq z) (take j ys)) (sym (front xs i lt at z))

  pub second_more : j < length ys → v ≡ get_or ys j d → HasValuesOf next (take i xs) (take (j + 1) ys)
  second_more lt at z = now z ∙ by_second (list_any (int_eq z) (take i xs)) (list_any (int_eq z) (take j ys)) (int_eq z v) ∙ ap (λ b. list_any (int_eq z) (take i xs) || b) (sym (front ys j lt at z))

  pub both_more : i < length xs → v ≡ get_or xs i d → j < length ys → v ≡ get_or ys j d → HasValuesOf next (take (i + 1) xs) (take (j + 1) ys)
  both_more lt at lu as_well z =
      now z ∙ by_both (list_any (int_eq z) (take i xs)) (list_any (int_eq z) (take j ys)) (int_eq z v)
      ∙ (λ k. sym (front xs i lt at z) k || sym (front ys j lu as_well z) k)

rests : (a b c d : Bool) → (((a || b) || c) || d) ≡ ((a || c) || (b || d))
rests true b c d = refl
rests false true true d = refl
rests false true false d = refl
rests false false c d = refl

-- the rests of both, behind
pub all_values : (xs ys both next : List ℤ) (i j : ℕ) → HasValuesOf both (take i xs) (take j ys) → next ≡ (both ++ drop i xs) ++ drop j ys → xs ≡ take i xs ++ drop i xs → ys ≡ take j ys ++ drop j ys → HasValuesOf next xs ys
all_values xs ys both next i j h is e f z =
    let p = int_eq z in
    ap (list_any p) is ∙ list_any-append p (both ++ drop i xs) (drop j ys) ∙ ap (λ b. b || list_any p (drop j ys)) (list_any-append p both (drop i xs) ∙ ap (λ b. b || list_any p (drop i xs)) (h z))
    ∙ rests (list_any p (take i xs)) (list_any p (take j ys)) (list_any p (drop i xs)) (list_any p (drop j ys))
    ∙ sym (λ k. (ap (list_any p) e ∙ list_any-append p (take i xs) (drop i xs)) k || (ap (list_any p) f ∙ list_any-append p (take j ys) (drop j ys)) k)
