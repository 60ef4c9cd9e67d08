-- A strictly ascending list is known by its members, so the sorted values without repeats are the distinct values.
use Rattle.std.proofs.Common.{◌≡◌, ℕ, zero, suc, ◌+◌, ◌-◌, ◌<◌, ◌≤◌, Bool, true, false, cond, ℤ, pos, int_lt, ◌<ℤ◌, ◌≤ℤ◌, List, [], ◌∷◌, ◌++◌, length, get_or, Contains, IsPermutation, ◌⊎◌, inl, inr, sym, ap, ◌∙◌, refl, subst, arith, if◌then◌else◌}
use Rattle.std.specs.Ordering.{int_eq, int_cmp, is_lt}
use Rattle.std.specs.List.Sorted.{IsSorted}
use Rattle.std.specs.declared.cmp.Ordering.TheVariants.{Less, Equal, Greater}
use Rattle.std.proofs.lemmas.Int.{ints}
use Rattle.std.proofs.lemmas.Bool.{cases_Bool, cases_lt, both_ways}
use Rattle.std.proofs.lemmas.Bool.Decides.{Decides-int_eq}
use Rattle.std.proofs.lemmas.List.{get_or_default}
use Rattle.std.proofs.lemmas.List.Sorted.{Contains-permutation, IsPermutation-sym}
use Rattle.bit_interleave.specs.Range.{value_at}
use Rattle.run_dictionary.specs.Runs.{changes_at, changed_values}
use Rattle.run_dictionary.specs.Dict.{with_value, distinct}
use Rattle.run_dictionary.proofs.RunLemmas.{changed_values-none, changed_values-one, changes_at-same, changed_values-yes, changed_values-no, get_or-changed_values, length-changed_values}
use Rattle.transpose_order.specs.Mask.{count_below}
use Rattle.run_dictionary.proofs.CountLemmas.{count_below-rises}

-- ---- members, by recursion
abbrev pub Has : ℤ → List ℤ → Type 0
Has z [] = ⊥
Has z (x ∷ xs) = (z ≡ x) ⊎ Has z xs

pub Has-get_or : (xs : List ℤ) (k : ℕ) → k < length xs → Has (get_or xs k (pos 0)) xs
Has-get_or [] k h = absurd (omega arith)
Has-get_or (x ∷ xs) zero h = inl refl
Has-get_or (x ∷ xs) (suc k) h = inr (Has-get_or xs k (omega arith))

pub place_of_member : (z : ℤ) (xs : List ℤ) → Has z xs → (k : ℕ) × (k < length xs) × (get_or xs k (pos 0) ≡ z)
place_of_member z [] h = elim h [ ]
place_of_member z (x ∷ xs) (inl e) = (0, omega arith, sym e)
place_of_member z (x ∷ xs) (inr h) = let r = place_of_member z xs h in (suc r.0, omega (arith, r.1), r.2)

pub Has-append_left : (z : ℤ) (xs ys : List ℤ) → Has z xs → Has z (xs ++ ys)
Has-append_left z [] ys h = elim h [ ]
Has-append_left z (x ∷ xs) ys (inl e) = inl e
Has-append_left z (x ∷ xs) ys (inr h) = inr (Has-append_left z xs ys h)

pub Has-append_right : (z : ℤ) (xs ys : List ℤ) → Has z ys → Has z (xs ++ ys)
Has-append_right z [] ys h = h
Has-append_right z (x ∷ xs) ys h = inr (Has-append_right z xs ys h)

pub Has-append : (z : ℤ) (xs ys : List ℤ) → Has z (xs ++ ys) → Has z xs ⊎ Has z ys
Has-append z [] ys h = inr h
Has-append z (x ∷ xs) ys (inl e) = inl (inl e)
Has-append z (x ∷ xs) ys (inr h) = by_part (Has-append z xs ys h)
  where
    by_part : Has z xs ⊎ Has z ys → Has z (x ∷ xs) ⊎ Has z ys
    by_part (inl l) = inl (inr l)
    by_part (inr r) = inr r

-- ---- ascending lists
abbrev pub Ascends : List ℤ → Type 0
Ascends [] = Unit {0}
Ascends (x ∷ xs) = ((z : ℤ) → Has z xs → x <ℤ z) × Ascends xs

pub less_not_equal : (x y : ℤ) → x <ℤ y → x ≡ y → ⊥
less_not_equal x y l e = omega (arith, ints)

less_not_greater : (x y : ℤ) → x <ℤ y → y <ℤ x → ⊥
less_not_greater x y l m = omega (arith, ints)

less_through : (x y z : ℤ) → x <ℤ y → y <ℤ z → x <ℤ z
less_through x y z l m = omega (arith, ints)

-- two ascending lists with the same members are equal
pub Ascends-same : (xs ys : List ℤ) → Ascends xs → Ascends ys → ((z : ℤ) → Has z xs → Has z ys) → ((z : ℤ) → Has z ys → Has z xs) → xs ≡ ys
Ascends-same [] [] a b f g = refl
Ascends-same [] (y ∷ ys) a b f g = absurd (g y (inl refl))
Ascends-same (x ∷ xs) [] a b f g = absurd (f x (inl refl))
Ascends-same (x ∷ xs) (y ∷ ys) a b f g =
    let heads : x ≡ y = heads_agree (f x (inl refl)) (g y (inl refl)) in
    let tails : xs ≡ ys = Ascends-same xs ys a.1 b.1
    (λ z h. rest_of z y ys (f z (inr h)) (λ e. less_not_equal x z (a.0 z h) (heads ∙ sym e)))
    (λ z h. rest_of z x xs (g z (inr h)) (λ e. less_not_equal y z (b.0 z h) (sym heads ∙ sym e))) in
    λ i. heads i ∷ tails i
  where
    heads_agree : Has x (y ∷ ys) → Has y (x ∷ xs) → x ≡ y
    heads_agree (inl e) _ = e
    heads_agree (inr h) (inl e) = sym e
    heads_agree (inr h) (inr k) = absurd (less_not_greater y x (b.0 x h) (a.0 y k))

    rest_of : (z y : ℤ) (ys : List ℤ) → Has z (y ∷ ys) → (z ≡ y → ⊥) → Has z ys
    rest_of z y ys (inl e) n = absurd (n e)
    rest_of z y ys (inr h) n = h

-- an ascending list whose members another ascending list has is not longer
pub length-le_from_members : (xs ys : List ℤ) → Ascends xs → Ascends ys → ((z : ℤ) → Has z xs → Has z ys) → length xs ≤ length ys
length-le_from_members [] ys a b f = omega arith
length-le_from_members (x ∷ xs) [] a b f = absurd (f x (inl refl))
length-le_from_members (x ∷ xs) (y ∷ ys) a b f =
    by_head (f x (inl refl)) (λ e. length-le_from_members xs ys a.1 b.1 (λ z h. rest_of z (f z (inr h)) (λ m. less_not_equal x z (a.0 z h) (e ∙ sym m))))
    (λ h. length-le_from_members (x ∷ xs) ys a b.1 (λ z g. above z h g (f z g)))
  where
    rest_of : (z : ℤ) → Has z (y ∷ ys) → (z ≡ y → ⊥) → Has z ys
    rest_of z (inl e) n = absurd (n e)
    rest_of z (inr h) n = h

    above : (z : ℤ) → Has x ys → Has z (x ∷ xs) → Has z (y ∷ ys) → Has z ys
    above z h g (inr k) = k
    above z h (inl e) (inl m) = subst (λ (z : ℤ). Has z ys) (sym e) h
    above z h (inr g) (inl m) = absurd (less_not_greater y x (b.0 x h) (subst (λ (z : ℤ). x <ℤ z) m (a.0 z g)))

    by_head : Has x (y ∷ ys) → (x ≡ y → length xs ≤ length ys) → (Has x ys → length (x ∷ xs) ≤ length ys) → length (x ∷ xs) ≤ length (y ∷ ys)
    by_head (inl e) same later = omega (arith, same e)
    by_head (inr h) same later = omega (arith, later h)

pub Ascends-push : (xs : List ℤ) (y : ℤ) → Ascends xs → ((z : ℤ) → Has z xs → z <ℤ y) → Ascends (xs ++ y ∷ [])
Ascends-push [] y a f = ((λ z h. absurd h), tt)
Ascends-push (x ∷ xs) y a f =
    ((λ z h. by_part z (Has-append z xs (y ∷ []) h)), Ascends-push xs y a.1 (λ z h. f z (inr h)))
  where
    by_part : (z : ℤ) → Has z xs ⊎ Has z (y ∷ []) → x <ℤ z
    by_part z (inl h) = a.0 z h
    by_part z (inr (inl e)) = subst (λ (z : ℤ). x <ℤ z) (sym e) (f x (inl refl))
    by_part z (inr (inr h)) = elim h [ ]

-- ---- the distinct values of a list
pub less_from_test : (v x : ℤ) → int_lt v x ≡ true → v <ℤ x
less_from_test v x e = grind (arith, ints)

gt_from_tests : (v x : ℤ) → int_lt v x ≡ false → int_eq v x ≡ false → x <ℤ v
gt_from_tests v x e f =
    let differ : v ≡ x → ⊥ = λ same. both_ways (int_eq v x) f ((Decides-int_eq v x).1 same) in
    let at_least : x ≤ℤ v = grind (arith, ints) in
    less_if_differs x v at_least differ
  where
    less_if_differs : (x v : ℤ) → x ≤ℤ v → (v ≡ x → ⊥) → x <ℤ v
    less_if_differs x v le ne = omega (arith, ints)

-- the value before, at or after the first element
abbrev placed : Bool → Bool → ℤ → ℤ → List ℤ → List ℤ
placed less same v x xs = if less then v ∷ x ∷ xs else (if same then x ∷ xs else x ∷ with_value v xs)

pub Has-with_value : (v z : ℤ) (xs : List ℤ) → (z ≡ v) ⊎ Has z xs → Has z (with_value v xs)
Has-with_value v z [] (inl e) = inl e
Has-with_value v z [] (inr h) = elim h [ ]
Has-with_value v z (x ∷ xs) h = by_tests (int_lt v x) (int_eq v x) (Decides-int_eq v x).0 h (λ g. Has-with_value v z xs g)
  where
    by_tests : (less same : Bool) → (same ≡ true → v ≡ x) → (z ≡ v) ⊎ Has z (x ∷ xs) → ((z ≡ v) ⊎ Has z xs → Has z (with_value v xs)) → Has z (placed less same v x xs)
    by_tests true same e (inl g) ih = inl g
    by_tests true same e (inr g) ih = inr g
    by_tests false true e (inl g) ih = inl (g ∙ e refl)
    by_tests false true e (inr g) ih = g
    by_tests false false e (inl g) ih = inr (ih (inl g))
    by_tests false false e (inr (inl g)) ih = inl g
    by_tests false false e (inr (inr g)) ih = inr (ih (inr g))

pub Has-from_with_value : (v z : ℤ) (xs : List ℤ) → Has z (with_value v xs) → (z ≡ v) ⊎ Has z xs
Has-from_with_value v z [] (inl e) = inl e
Has-from_with_value v z [] (inr h) = elim h [ ]
Has-from_with_value v z (x ∷ xs) h = by_tests (int_lt v x) (int_eq v x) h (λ g. Has-from_with_value v z xs g)
  where
    later : (z ≡ v) ⊎ Has z xs → (z ≡ v) ⊎ Has z (x ∷ xs)
    later (inl e) = inl e
    later (inr g) = inr (inr g)

    by_tests : (less same : Bool) → Has z (placed less same v x xs) → (Has z (with_value v xs) → (z ≡ v) ⊎ Has z xs) → (z ≡ v) ⊎ Has z (x ∷ xs)
    by_tests true same (inl g) ih = inl g
    by_tests true same (inr g) ih = inr g
    by_tests false true g ih = inr g
    by_tests false false (inl g) ih = inr (inl g)
    by_tests false false (inr g) ih = later (ih g)

Ascends-with_value : (v : ℤ) (xs : List ℤ) → Ascends xs → Ascends (with_value v xs)
Ascends-with_value v [] a = ((λ z h. elim h [ ]), tt)
Ascends-with_value v (x ∷ xs) a = by_tests (int_lt v x) (int_eq v x) (less_from_test v x) (gt_from_tests v x) (Ascends-with_value v xs a.1)
  where
    after : (z : ℤ) → x <ℤ v → (z ≡ v) ⊎ Has z xs → x <ℤ z
    after z l (inl e) = subst (λ (z : ℤ). x <ℤ z) (sym e) l
    after z l (inr h) = a.0 z h

    before : (z : ℤ) → v <ℤ x → Has z (x ∷ xs) → v <ℤ z
    before z l (inl e) = subst (λ (z : ℤ). v <ℤ z) (sym e) l
    before z l (inr h) = less_through v x z l (a.0 z h)

    by_tests : (less same : Bool) → (less ≡ true → v <ℤ x) → (less ≡ false → same ≡ false → x <ℤ v) → Ascends (with_value v xs) → Ascends (placed less same v x xs)
    by_tests true same l g ih = ((λ z h. before z (l refl) h), a)
    by_tests false true l g ih = a
    by_tests false false l g ih = ((λ z h. after z (g refl refl) (Has-from_with_value v z xs h)), ih)

pub Ascends-distinct : (xs : List ℤ) → Ascends (distinct xs)
unfolding distinct
Ascends-distinct [] = tt
Ascends-distinct (v ∷ vs) = Ascends-with_value v (distinct vs) (Ascends-distinct vs)

pub Has-distinct : (z : ℤ) (xs : List ℤ) → Has z xs → Has z (distinct xs)
unfolding distinct
Has-distinct z [] h = h
Has-distinct z (v ∷ vs) (inl e) = Has-with_value v z (distinct vs) (inl e)
Has-distinct z (v ∷ vs) (inr h) = Has-with_value v z (distinct vs) (inr (Has-distinct z vs h))

pub Has-from_distinct : (z : ℤ) (xs : List ℤ) → Has z (distinct xs) → Has z xs
unfolding distinct
Has-from_distinct z [] h = h
Has-from_distinct z (v ∷ vs) h = by_part (Has-from_with_value v z (distinct vs) h) (λ g. Has-from_distinct z vs g)
  where
    by_part : (z ≡ v) ⊎ Has z (distinct vs) → (Has z (distinct vs) → Has z vs) → Has z (v ∷ vs)
    by_part (inl e) ih = inl e
    by_part (inr g) ih = inr (ih g)

pub length-with_value : (v : ℤ) (xs : List ℤ) → length (with_value v xs) ≤ length xs + 1
length-with_value v [] = omega arith
length-with_value v (x ∷ xs) = by_tests (int_lt v x) (int_eq v x) (length-with_value v xs)
  where
    by_tests : (less same : Bool) → length (with_value v xs) ≤ length xs + 1 → length (placed less same v x xs) ≤ length (x ∷ xs) + 1
    by_tests true same ih = omega arith
    by_tests false true ih = omega arith
    by_tests false false ih = omega arith

pub length-distinct : (xs : List ℤ) → length (distinct xs) ≤ length xs
unfolding distinct
length-distinct [] = omega arith
length-distinct (v ∷ vs) = omega (arith, length-with_value v (distinct vs), length-distinct vs)

-- an ascending list with the members of another is its distinct values
pub distinct_is : (xs ys : List ℤ) → Ascends ys → ((z : ℤ) → Has z xs → Has z ys) → ((z : ℤ) → Has z ys → Has z xs) → ys ≡ distinct xs
distinct_is xs ys a f g = Ascends-same ys (distinct xs) a (Ascends-distinct xs) (λ z h. Has-distinct z xs (g z h)) (λ z h. f z (Has-from_distinct z xs h))

-- ---- the changes of sorted values
-- the row of a value that the list of changes has
pub row_of_changed : (v : ℕ → ℤ) (n : ℕ) (z : ℤ) → Has z (changed_values v n) → (i : ℕ) × (i < n) × (v i ≡ z)
row_of_changed v zero z h = elim (subst (λ (xs : List ℤ). Has z xs) (changed_values-none v) h) [ ]
row_of_changed v (suc zero) z h = by_only (subst (λ (xs : List ℤ). Has z xs) (changed_values-one v) h)
  where
    by_only : Has z (v 0 ∷ []) → (i : ℕ) × (i < 1) × (v i ≡ z)
    by_only (inl e) = (0, omega arith, sym e)
    by_only (inr g) = elim g [ ]
row_of_changed v (suc (suc n)) z h = by_change (cases_Bool (changes_at v (suc n))) (λ g. let r = row_of_changed v (suc n) z g in (r.0, omega (arith, r.1), r.2))
  where
    by_part : Has z (changed_values v (suc n)) ⊎ Has z (v (suc n) ∷ []) → (Has z (changed_values v (suc n)) → (i : ℕ) × (i < suc (suc n)) × (v i ≡ z)) → (i : ℕ) × (i < suc (suc n)) × (v i ≡ z)
    by_part (inl g) ih = ih g
    by_part (inr (inl e)) ih = (suc n, omega arith, sym e)
    by_part (inr (inr g)) ih = elim g [ ]

    by_change : (changes_at v (suc n) ≡ true) ⊎ (changes_at v (suc n) ≡ false) → (Has z (changed_values v (suc n)) → (i : ℕ) × (i < suc (suc n)) × (v i ≡ z)) → (i : ℕ) × (i < suc (suc n)) × (v i ≡ z)
    by_change (inl e) ih = by_part (Has-append z (changed_values v (suc n)) (v (suc n) ∷ []) (subst (λ (xs : List ℤ). Has z xs) (changed_values-yes v (suc n) e) h)) ih
    by_change (inr e) ih = ih (subst (λ (xs : List ℤ). Has z xs) (changed_values-no v n e) h)

-- each value is one of those where the value changes
pub Has-changed_values : (v : ℕ → ℤ) (n i : ℕ) → i < n → Has (v i) (changed_values v n)
Has-changed_values v n i h =
    let at = get_or-changed_values v n i h in
    let within : count_below (λ i. changes_at v (suc i)) i < length (changed_values v n) = within_length n i h in
    subst (λ (z : ℤ). Has z (changed_values v n)) at (Has-get_or (changed_values v n) _ within)
  where
    within_length : (n i : ℕ) → i < n → count_below (λ i. changes_at v (suc i)) i < length (changed_values v n)
    within_length zero i h = absurd (omega arith)
    within_length (suc n) i h = omega (arith, length-changed_values v n, count_below-rises (λ i. changes_at v (suc i)) i n (omega arith))

rises_to : (v : ℕ → ℤ) (n i : ℕ) → ((i : ℕ) → suc i < suc n → v i ≤ℤ v (suc i)) → i ≤ n → v i ≤ℤ v n
rises_to v zero i h l = let e : i ≡ 0 = omega arith in subst (λ (k : ℕ). v k ≤ℤ v 0) (sym e) (omega (arith, ints))
rises_to v (suc n) i h l = by_place (cases_lt i (suc n)) (λ m. rises_to v n i (λ k b. h k (omega arith)) m) (h n (omega arith))
  where
    through : (x y z : ℤ) → x ≤ℤ y → y ≤ℤ z → x ≤ℤ z
    through x y z l m = omega (arith, ints)

    by_place : (i < suc n) ⊎ (suc n ≤ i) → (i ≤ n → v i ≤ℤ v n) → v n ≤ℤ v (suc n) → v i ≤ℤ v (suc n)
    by_place (inl m) ih step = through (v i) (v n) (v (suc n)) (ih (omega arith)) step
    by_place (inr m) ih step = let e : i ≡ suc n = omega arith in subst (λ (k : ℕ). v k ≤ℤ v (suc n)) (sym e) (omega (arith, ints))

less_from_changed : (x y z : ℤ) → x ≤ℤ y → y ≤ℤ z → (z ≡ y → ⊥) → x <ℤ z
less_from_changed x y z l m n = omega (arith, ints)

-- the changes of rising values ascend
pub Ascends-changed_values : (v : ℕ → ℤ) (n : ℕ) → ((i : ℕ) → suc i < n → v i ≤ℤ v (suc i)) → Ascends (changed_values v n)
Ascends-changed_values v zero h = subst Ascends (sym (changed_values-none v)) tt
Ascends-changed_values v (suc zero) h = subst Ascends (sym (changed_values-one v)) ((λ z g. elim g [ ]), tt)
Ascends-changed_values v (suc (suc n)) h = by_change (cases_Bool (changes_at v (suc n))) (Ascends-changed_values v (suc n) (λ i l. h i (omega arith)))
  where
    by_change : (changes_at v (suc n) ≡ true) ⊎ (changes_at v (suc n) ≡ false) → Ascends (changed_values v (suc n)) → Ascends (changed_values v (suc (suc n)))
    by_change (inr e) ih = subst Ascends (sym (changed_values-no v n e)) ih
    by_change (inl e) ih =
        subst Ascends (sym (changed_values-yes v (suc n) e))
        (Ascends-push (changed_values v (suc n)) (v (suc n)) ih
        (λ z g.
        let r = row_of_changed v (suc n) z g in
        let up : v r.0 ≤ℤ v n = rises_to v n r.0 (λ i l. h i (omega arith)) (omega (arith, r.1)) in
        subst (λ (z : ℤ). z <ℤ v (suc n)) r.2
        (less_from_changed (v r.0) (v n) (v (suc n)) up (h n (omega arith)) (λ same. both_ways _ (changes_at-same v n same) e))))

-- ---- a sorted vector
pub member_from_Contains : (xs : List ℤ) (z : ℤ) → Contains xs z → Has z xs
member_from_Contains xs z c = subst (λ (x : ℤ). Has x xs) (get_or_default xs c.0 (pos 0) z c.1 ∙ c.2) (Has-get_or xs c.0 c.1)

pub Contains-from_member : (xs : List ℤ) (z : ℤ) → Has z xs → Contains xs z
Contains-from_member xs z h = let r = place_of_member z xs h in (r.0, r.1, get_or_default xs r.0 z (pos 0) r.1 ∙ r.2)

rises_from_sorted : (x y : ℤ) → is_lt (int_cmp y x) ≡ false → x ≤ℤ y
rises_from_sorted x y e = by_test (cases_Bool (int_lt y x))
  where
    by_test : (int_lt y x ≡ true) ⊎ (int_lt y x ≡ false) → x ≤ℤ y
    by_test (inl l) = absurd (both_ways _ e (ap (λ b. is_lt (cond b Less (cond (int_lt x y) Greater Equal))) l))
    by_test (inr l) = grind (arith, ints)

pub changed_values-sorted : (values sorted : List ℤ) → IsPermutation values sorted → IsSorted int_cmp sorted → changed_values (value_at sorted) (length sorted) ≡ distinct values
changed_values-sorted values sorted p s =
    distinct_is values (changed_values (value_at sorted) (length sorted))
    (Ascends-changed_values (value_at sorted) (length sorted) (λ i h. rises_from_sorted _ _ (ap (λ k. is_lt (int_cmp (value_at sorted k) (value_at sorted i))) (let e : suc i ≡ i + 1 = omega arith in e) ∙ s i (pos 0) (omega arith) (omega arith))))
    (λ z h.
    let c = Contains-permutation values sorted z p (Contains-from_member values z h) in
    let r = place_of_member z sorted (member_from_Contains sorted z c) in
    subst (λ (x : ℤ). Has x (changed_values (value_at sorted) (length sorted))) r.2 (Has-changed_values (value_at sorted) (length sorted) r.0 (omega (arith, r.1))))
    (λ z h.
    let r = row_of_changed (value_at sorted) (length sorted) z h in
    let m : Has z sorted = subst (λ (x : ℤ). Has x sorted) r.2 (Has-get_or sorted r.0 (omega (arith, r.1))) in
    member_from_Contains values z (Contains-permutation sorted values z (IsPermutation-sym values sorted p) (Contains-from_member sorted z m)))

-- the changes of some values are as many as their values less one
pub length-changes : (xs : List ℤ) → 0 < length xs → count_below (λ i. changes_at (value_at xs) (suc i)) (length xs - 1) + 1 ≡ length (changed_values (value_at xs) (length xs))
length-changes xs h =
    let whole : suc (length xs - 1) ≡ length xs = omega arith in
    sym (length-changed_values (value_at xs) (length xs - 1)) ∙ ap (λ n. length (changed_values (value_at xs) n)) whole
