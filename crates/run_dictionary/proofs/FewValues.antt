-- How many distinct values a list has, where they are one, two, or three at least.
use Rattle.std.proofs.Common.{◌≡◌, ◌≢◌, ℕ, ◌+◌, ◌<◌, ◌≤◌, min, ◌⊎◌, inl, inr, ◌↔◌, ℤ, List, [], ◌∷◌, length, refl, sym, ap, ◌∙◌, subst, arith}
use Rattle.std.proofs.Math.Nat.{min-le_left, min-le_right, le-min}
use Rattle.std.proofs.lemmas.Bool.{cases_lt}
use Rattle.bit_interleave.specs.Range.{value_at}
use Rattle.run_dictionary.specs.Dict.{distinct}
use Rattle.run_dictionary.proofs.OrderLemmas.{Has, Has-get_or, place_of_member, Has-distinct, Has-from_distinct, Ascends-distinct, length-le_from_members}
use Rattle.run_dictionary.proofs.KeyLemmas.{length-distinct_new, decided}

none_distinct : length (distinct []) ≡ 0
unfolding distinct
none_distinct = refl

one_is_distinct : (a : ℤ) → length (distinct (a ∷ [])) ≡ 1
one_is_distinct a = length-distinct_new a [] (λ h. elim h [ ]) ∙ ap (λ n. n + 1) none_distinct

two_are_distinct : (a b : ℤ) → a ≢ b → length (distinct (a ∷ b ∷ [])) ≡ 2
two_are_distinct a b p = length-distinct_new a (b ∷ []) first ∙ ap (λ n. n + 1) (one_is_distinct b)
  where
    first : Has a (b ∷ []) → ⊥
    first (inl e) = p e
    first (inr h) = elim h [ ]

three_are_distinct : (a b c : ℤ) → a ≢ b → a ≢ c → b ≢ c → length (distinct (a ∷ b ∷ c ∷ [])) ≡ 3
three_are_distinct a b c p q r = length-distinct_new a (b ∷ c ∷ []) first ∙ ap (λ n. n + 1) (two_are_distinct b c r)
  where
    first : Has a (b ∷ c ∷ []) → ⊥
    first (inl e) = p e
    first (inr (inl e)) = q e
    first (inr (inr h)) = elim h [ ]

-- a list has as many distinct values as another whose values it has
fewer_distinct : (xs ys : List ℤ) → ((z : ℤ) → Has z xs → Has z ys) → length (distinct xs) ≤ length (distinct ys)
fewer_distinct xs ys f =
    length-le_from_members (distinct xs) (distinct ys) (Ascends-distinct xs) (Ascends-distinct ys) (λ z h. Has-distinct z ys (f z (Has-from_distinct z xs h)))

pub one_distinct : (xs : List ℤ) (a : ℤ) → Has a xs → ((z : ℤ) → Has z xs → z ≡ a) → length (distinct xs) ≡ 1
one_distinct xs a there each =
    let low : length (distinct (a ∷ [])) ≤ length (distinct xs) = fewer_distinct (a ∷ []) xs member in
    let high : length (distinct xs) ≤ length (distinct (a ∷ [])) = fewer_distinct xs (a ∷ []) (λ z h. inl (each z h)) in
    omega (arith, low, high, one_is_distinct a)
  where
    member : (z : ℤ) → Has z (a ∷ []) → Has z xs
    member z (inl e) = subst (λ (y : ℤ). Has y xs) (sym e) there
    member z (inr h) = elim h [ ]

pub two_distinct : (xs : List ℤ) (a b : ℤ) → Has a xs → Has b xs → a ≢ b → ((z : ℤ) → Has z xs → (z ≡ a) ⊎ (z ≡ b)) → length (distinct xs) ≡ 2
two_distinct xs a b one two p each =
    let low : length (distinct (a ∷ b ∷ [])) ≤ length (distinct xs) = fewer_distinct (a ∷ b ∷ []) xs member in
    let high : length (distinct xs) ≤ length (distinct (a ∷ b ∷ [])) = fewer_distinct xs (a ∷ b ∷ []) (λ z h. elim (each z h) [ inl e ↦ inl e | inr e ↦ inr (inl e) ]) in
    omega (arith, low, high, two_are_distinct a b p)
  where
    member : (z : ℤ) → Has z (a ∷ b ∷ []) → Has z xs
    member z (inl e) = subst (λ (y : ℤ). Has y xs) (sym e) one
    member z (inr (inl e)) = subst (λ (y : ℤ). Has y xs) (sym e) two
    member z (inr (inr h)) = elim h [ ]

pub three_distinct : (xs : List ℤ) (a b c : ℤ) → Has a xs → Has b xs → Has c xs → a ≢ b → a ≢ c → b ≢ c → 3 ≤ length (distinct xs)
three_distinct xs a b c one two three p q r =
    let low : length (distinct (a ∷ b ∷ c ∷ [])) ≤ length (distinct xs) = fewer_distinct (a ∷ b ∷ c ∷ []) xs member in
    omega (arith, low, three_are_distinct a b c p q r)
  where
    member : (z : ℤ) → Has z (a ∷ b ∷ c ∷ []) → Has z xs
    member z (inl e) = subst (λ (y : ℤ). Has y xs) (sym e) one
    member z (inr (inl e)) = subst (λ (y : ℤ). Has y xs) (sym e) two
    member z (inr (inr (inl e))) = subst (λ (y : ℤ). Has y xs) (sym e) three
    member z (inr (inr (inr h))) = elim h [ ]

-- ---- the count up to three, of a list whose values are seen by their places
pub is_one : (xs : List ℤ) → 0 < length xs → ((i : ℕ) → i < length xs → value_at xs i ≡ value_at xs 0) → 1 ≡ min 3 (length (distinct xs))
is_one xs some each =
    sym (ap (min 3) (one_distinct xs (value_at xs 0) (Has-get_or xs 0 some) (λ z h. let at = place_of_member z xs h in sym at.2 ∙ each at.0 at.1)))

pub is_two : (xs : List ℤ) (k : ℕ) → 0 < length xs → k < length xs → value_at xs k ≢ value_at xs 0
    → ((i : ℕ) → i < length xs → (value_at xs i ≢ value_at xs 0) × (value_at xs i ≢ value_at xs k) → ⊥) → 2 ≡ min 3 (length (distinct xs))
is_two xs k some within other each =
    sym (ap (min 3) (two_distinct xs (value_at xs 0) (value_at xs k) (Has-get_or xs 0 some) (Has-get_or xs k within) (λ e. other (sym e)) members))
  where
    none : (z : ℤ) → Has z xs → z ≢ value_at xs 0 → z ≢ value_at xs k → ⊥
    none z h n m = let at = place_of_member z xs h in each at.0 at.1 (λ e. n (sym at.2 ∙ e), λ e. m (sym at.2 ∙ e))

    by_cases : (z : ℤ) → Has z xs → Has z (value_at xs 0 ∷ value_at xs k ∷ []) ⊎ (Has z (value_at xs 0 ∷ value_at xs k ∷ []) → ⊥) → (z ≡ value_at xs 0) ⊎ (z ≡ value_at xs k)
    by_cases z h (inl (inl e)) = inl e
    by_cases z h (inl (inr (inl e))) = inr e
    by_cases z h (inl (inr (inr g))) = elim g [ ]
    by_cases z h (inr n) = absurd (none z h (λ e. n (inl e)) (λ e. n (inr (inl e))))

    members : (z : ℤ) → Has z xs → (z ≡ value_at xs 0) ⊎ (z ≡ value_at xs k)
    members z h = by_cases z h (decided z (value_at xs 0 ∷ value_at xs k ∷ []))

pub is_three : (xs : List ℤ) (k m : ℕ) → 0 < length xs → k < length xs → m < length xs → value_at xs k ≢ value_at xs 0 → (value_at xs m ≢ value_at xs 0) × (value_at xs m ≢ value_at xs k) → 3 ≡ min 3 (length (distinct xs))
is_three xs k m some within there other another =
    let n : ℕ = length (distinct xs) in
    let many : 3 ≤ n = three_distinct xs (value_at xs 0) (value_at xs k) (value_at xs m) (Has-get_or xs 0 some) (Has-get_or xs k within) (Has-get_or xs m there) (λ e. other (sym e)) (λ e. another.0 (sym e)) (λ e. another.1 (sym e)) in
    let least : 3 ≤ min 3 n = le-min {k = 3} {a = 3} {b = n} (omega arith) many in
    omega (arith, least, min-le_left 3 n)

-- a place that is no more than the number of values, and isn't it, is the place of one
pub is_place : (k n : ℕ) → k ≤ n → (k ≡ n → ⊥) → k < n
is_place k n most other = elim (cases_lt k n) [ inl l ↦ l | inr l ↦ absurd (other (omega (arith, most, l))) ]

-- the count up to three tells whether there are more than two values at most
pub more_to_three : (limit n : ℕ) → limit < 3 → (limit < min 3 n) ↔ (limit < n)
more_to_three limit n few = (
  λ h. omega (arith, h, min-le_right 3 n),
  λ h. let least : limit + 1 ≤ min 3 n = le-min {k = limit + 1} {a = 3} {b = n} (omega (arith, few)) (omega (arith, h)) in omega (arith, least),
)
