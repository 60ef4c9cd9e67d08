-- A vector has no more keys than values, and as many where no two values have one key.
use Rattle.std.proofs.Common.{◌≡◌, ◌≢◌, ℕ, zero, suc, ◌+◌, ◌-◌, ◌*◌, ◌/◌, ◌%◌, ◌^◌, ◌<◌, ◌≤◌, ◌==◌, ◌||◌, Bool, true, false, cond, ℤ, pos, negsuc, ◌<ℤ◌, ◌≤ℤ◌, ◌↔◌, int_lt, List, [], ◌∷◌, ◌++◌, map, take, drop, length, get_or, set, replicate, bit_or, ◌⊎◌, inl, inr, refl, sym, ap, ◌∙◌, subst, arith, FitsSigned}
use Rattle.std.specs.Int.{w64, int_gap, bit_at}
use Rattle.std.specs.Ordering.{int_eq}
use Rattle.std.proofs.lemmas.Int.{ints}
use Rattle.std.proofs.lemmas.Bool.{cases_Bool, both_ways, eqb-true, eqb-false, eq-eqb, ne_eqb}
use Rattle.std.proofs.lemmas.Nat.Bits.{bit_at-zero, bit_at_set_same, bit_at_set_other}
use Rattle.std.proofs.lemmas.Bool.Decides.{Decides-int_eq}
use Rattle.std.proofs.lemmas.List.{get_or-set_same, get_or-set_other, length-map, map-append, take_more, take-append-drop}
use Rattle.std.proofs.Math.Bool.{or-true}
use Rattle.bit_interleave.proofs.GapLemmas.{gap_within}
use Rattle.transpose_order.specs.Mask.{truth_at}
use Rattle.run_dictionary.specs.Dict.{with_value, distinct}
use Rattle.run_dictionary.specs.Keys.{key_of, keys_of}
use Rattle.run_dictionary.proofs.OrderLemmas.{Has, Has-append, Has-append_left, Has-append_right, Ascends-distinct, Has-distinct, Has-from_distinct, distinct_is, length-with_value, length-le_from_members, length-distinct, place_of_member, less_from_test}
use Rattle.run_dictionary.proofs.DictLemmas.{not_less_from_test}

-- ---- one more value
pub decided : (z : ℤ) (xs : List ℤ) → Has z xs ⊎ (Has z xs → ⊥)
decided z [] = inr (λ h. elim h [ ])
decided z (x ∷ xs) = by_test (cases_Bool (int_eq z x)) (decided z xs)
  where
    by_test : (int_eq z x ≡ true) ⊎ (int_eq z x ≡ false) → Has z xs ⊎ (Has z xs → ⊥) → Has z (x ∷ xs) ⊎ (Has z (x ∷ xs) → ⊥)
    by_test (inl e) _ = inl (inl ((Decides-int_eq z x).0 e))
    by_test (inr e) (inl h) = inl (inr h)
    by_test (inr e) (inr n) = inr (λ h. elim h [ inl s ↦ both_ways _ e ((Decides-int_eq z x).1 s) | inr g ↦ n g ])

-- lists with the same members have the same distinct values
pub distinct-same : (xs ys : List ℤ) → ((z : ℤ) → Has z xs → Has z ys) → ((z : ℤ) → Has z ys → Has z xs) → distinct xs ≡ distinct ys
distinct-same xs ys f g =
    distinct_is ys (distinct xs) (Ascends-distinct xs) (λ z h. Has-distinct z xs (g z h)) (λ z h. f z (Has-from_distinct z xs h))

pub distinct-old : (z : ℤ) (xs : List ℤ) → Has z xs → distinct (z ∷ xs) ≡ distinct xs
distinct-old z xs h = distinct-same (z ∷ xs) xs (λ x g. elim g [ inl e ↦ subst (λ (x : ℤ). Has x xs) (sym e) h | inr i ↦ i ]) (λ x g. inr g)

pub distinct-cons : (z : ℤ) (xs : List ℤ) → distinct (z ∷ xs) ≡ with_value z (distinct xs)
unfolding distinct
distinct-cons z xs = refl

length-with_new : (z : ℤ) (xs : List ℤ) → (Has z xs → ⊥) → length (with_value z xs) ≡ length xs + 1
length-with_new z [] n = refl
length-with_new z (x ∷ xs) n = by_tests (int_lt z x) (int_eq z x) (Decides-int_eq z x).0 (length-with_new z xs (λ h. n (inr h)))
  where
    by_tests : (less same : Bool) → (same ≡ true → z ≡ x) → length (with_value z xs) ≡ length xs + 1 → length (cond less (z ∷ x ∷ xs) (cond same (x ∷ xs) (x ∷ with_value z xs))) ≡ length (x ∷ xs) + 1
    by_tests true same e ih = omega arith
    by_tests false true e ih = absurd (n (inl (e refl)))
    by_tests false false e ih = omega arith

pub length-distinct_new : (z : ℤ) (xs : List ℤ) → (Has z xs → ⊥) → length (distinct (z ∷ xs)) ≡ length (distinct xs) + 1
length-distinct_new z xs n = ap length (distinct-cons z xs) ∙ length-with_new z (distinct xs) (λ h. n (Has-from_distinct z xs h))

pub distinct-push : (xs : List ℤ) (z : ℤ) → distinct (xs ++ z ∷ []) ≡ distinct (z ∷ xs)
distinct-push xs z =
    distinct-same (xs ++ z ∷ []) (z ∷ xs) (λ x h. elim (Has-append x xs (z ∷ []) h) [ inl g ↦ inr g | inr g ↦ elim g [ inl e ↦ inl e | inr i ↦ elim i [ ] ] ])
    (λ x h. elim h [ inl e ↦ Has-append_right x xs (z ∷ []) (inl e) | inr g ↦ Has-append_left x xs (z ∷ []) g ])

-- ---- keys of values
Has-key : (f : ℤ → ℤ) (z : ℤ) (xs : List ℤ) → Has z xs → Has (f z) (map f xs)
Has-key f z [] h = elim h [ ]
Has-key f z (x ∷ xs) (inl e) = inl (ap f e)
Has-key f z (x ∷ xs) (inr h) = inr (Has-key f z xs h)

value_of_key : (f : ℤ → ℤ) (y : ℤ) (xs : List ℤ) → Has y (map f xs) → (z : ℤ) × Has z xs × (y ≡ f z)
value_of_key f y [] h = elim h [ ]
value_of_key f y (x ∷ xs) (inl e) = (x, inl refl, e)
value_of_key f y (x ∷ xs) (inr h) = let r = value_of_key f y xs h in (r.0, inr r.1, r.2)

pub fewer_keys : (f : ℤ → ℤ) (xs : List ℤ) → length (distinct (map f xs)) ≤ length (distinct xs)
fewer_keys f [] = omega arith
fewer_keys f (x ∷ xs) = by_member (decided x xs) (fewer_keys f xs)
  where
    by_member : Has x xs ⊎ (Has x xs → ⊥) → length (distinct (map f xs)) ≤ length (distinct xs) → length (distinct (f x ∷ map f xs)) ≤ length (distinct (x ∷ xs))
    by_member (inl h) ih = omega (arith, ih, ap length (distinct-old (f x) (map f xs) (Has-key f x xs h)), ap length (distinct-old x xs h))
    by_member (inr n) ih = omega (arith, ih, length-distinct_new x xs n, ap length (distinct-cons (f x) (map f xs)), length-with_value (f x) (distinct (map f xs)))

pub as_many_keys : (f : ℤ → ℤ) (xs : List ℤ) → ((y z : ℤ) → Has y xs → Has z xs → f y ≡ f z → y ≡ z) → length (distinct (map f xs)) ≡ length (distinct xs)
as_many_keys f [] apart = refl
as_many_keys f (x ∷ xs) apart = by_member (decided x xs) (as_many_keys f xs (λ y z g h e. apart y z (inr g) (inr h) e))
  where
    by_member : Has x xs ⊎ (Has x xs → ⊥) → length (distinct (map f xs)) ≡ length (distinct xs) → length (distinct (f x ∷ map f xs)) ≡ length (distinct (x ∷ xs))
    by_member (inl h) ih = ap length (distinct-old (f x) (map f xs) (Has-key f x xs h)) ∙ ih ∙ sym (ap length (distinct-old x xs h))
    by_member (inr n) ih =
        length-distinct_new (f x) (map f xs) (λ h. let r = value_of_key f (f x) xs h in n (subst (λ (z : ℤ). Has z xs) (sym (apart x r.0 (inl refl) (inr r.1) r.2)) r.1))
        ∙ ap (λ k. k + 1) ih ∙ sym (length-distinct_new x xs n)

-- values that are near have one key only where they are one value
pub same_key : (x y : ℤ) → FitsSigned w64 x → FitsSigned w64 y → x ≤ℤ y → int_gap x y < 65536 → key_of x ≡ key_of y → x ≡ y
unfolding key_of
same_key (pos a) (pos b) f g l n e =
    let keys : a % 65536 ≡ b % 65536 = e in
    ap pos (omega (arith, ints))
same_key (pos a) (negsuc b) f g l n e = absurd (omega (arith, ints))
same_key (negsuc a) (pos b) f g l n e =
    let keys : (2 ^ 64 - suc a) % 65536 ≡ b % 65536 = e in
    let near : a + 1 + b < 65536 = n in
    absurd (omega (arith, f.sfits))
same_key (negsuc a) (negsuc b) f g l n e =
    let keys : (2 ^ 64 - suc a) % 65536 ≡ (2 ^ 64 - suc b) % 65536 = e in
    let near : a - b < 65536 = n in
    let order : b ≤ a = omega (arith, ints) in
    ap negsuc (omega (arith, f.sfits, g.sfits))

-- ---- marks
pub not_marked : (n k : ℕ) → truth_at (replicate n 0) k ≡ false
not_marked n k = ap (λ w. bit_at w (k % 64) == 1) (zeros n (k / 64)) ∙ ap (λ b. b == 1) (bit_at-zero (k % 64))
  where
    zeros : (n k : ℕ) → let none : ℕ = 0 in get_or (replicate n none) k none ≡ none
    zeros zero k = refl
    zeros (suc n) zero = refl
    zeros (suc n) (suc k) = zeros n k

pub truth_at-marked : (words : List ℕ) (number n : ℕ) → number / 64 < length words → truth_at (set words (number / 64) (bit_or (get_or words (number / 64) 0) (1 * 2 ^ (number % 64) % 2 ^ 64))) n ≡ ((n == number) || truth_at words n)
truth_at-marked words number n h = by_word (cases_Bool (n / 64 == number / 64)) (cases_Bool (n % 64 == number % 64))
  where
    word : ℕ
    word = bit_or (get_or words (number / 64) 0) (1 * 2 ^ (number % 64) % 2 ^ 64)

    by_word : ((n / 64 == number / 64) ≡ true) ⊎ ((n / 64 == number / 64) ≡ false) → ((n % 64 == number % 64) ≡ true) ⊎ ((n % 64 == number % 64) ≡ false) → truth_at (set words (number / 64) word) n ≡ ((n == number) || truth_at words n)
    by_word (inr e) _ =
        let apart : n / 64 ≢ number / 64 = eqb-false _ _ e in
        let differ : n ≢ number = λ s. apart (ap (λ k. k / 64) s) in
        ap (λ w. bit_at w (n % 64) == 1) (get_or-set_other words (number / 64) (n / 64) word 0 apart) ∙ sym (ap (λ b. b || truth_at words n) (ne_eqb n number differ))
    by_word (inl e) (inl f) =
        let bit : n % 64 ≡ number % 64 = eqb-true _ _ f in
        let whole : n / 64 ≡ number / 64 = eqb-true _ _ e in
        let same : n ≡ number = omega arith in
        ap (λ k. bit_at (get_or (set words (number / 64) word) k 0) (n % 64) == 1) whole ∙ ap (λ w. bit_at w (n % 64) == 1) (get_or-set_same words (number / 64) word 0 h)
        ∙ ap (λ k. bit_at word k == 1) bit ∙ ap (λ b. b == 1) (bit_at_set_same w64 (get_or words (number / 64) 0) (number % 64) (omega arith))
        ∙ sym (ap (λ b. b || truth_at words n) (eq-eqb n number same))
    by_word (inl e) (inr f) =
        let apart : n % 64 ≢ number % 64 = eqb-false _ _ f in
        let whole : n / 64 ≡ number / 64 = eqb-true _ _ e in
        let differ : n ≢ number = λ s. apart (ap (λ k. k % 64) s) in
        ap (λ k. bit_at (get_or (set words (number / 64) word) k 0) (n % 64) == 1) whole ∙ ap (λ w. bit_at w (n % 64) == 1) (get_or-set_same words (number / 64) word 0 h)
        ∙ ap (λ b. b == 1) (bit_at_set_other w64 (get_or words (number / 64) 0) (number % 64) (omega arith) (n % 64) apart)
        ∙ ap (λ k. bit_at (get_or words k 0) (n % 64) == 1) (sym whole) ∙ sym (ap (λ b. b || truth_at words n) (ne_eqb n number differ))

-- ---- the loop over the values
-- the keys of the values so far are marked and counted
pub record KeysCounted (values : List ℤ) (words : List ℕ) (count i : ℕ) : Type 0 where
  pub marked : (k : ℕ) → (truth_at words k ≡ true) ↔ Has (pos k) (keys_of (take i values))
  pub counted : count ≡ length (distinct (keys_of (take i values)))

pub KeysCounted-none : (values : List ℤ) (words : List ℕ) → ((n : ℕ) → truth_at words n ≡ false) → KeysCounted values words 0 0
unfolding distinct
KeysCounted-none values words none = record {
  marked = λ k. (λ t. absurd (both_ways _ (none k) t), λ h. elim h [ ]);
  counted = refl;
}

keys_more : (values : List ℤ) (i : ℕ) → i < length values → keys_of (take (i + 1) values) ≡ keys_of (take i values) ++ pos (key_of (get_or values i (pos 0))) ∷ []
keys_more values i h =
    ap keys_of (take_more values i (pos 0) h) ∙ map-append (λ v. pos (key_of v)) (take i values) (get_or values i (pos 0) ∷ [])

pub KeysCounted-more : (values : List ℤ) (old new : List ℕ) (count one i key : ℕ) → i < length values → KeysCounted values old count i → key ≡ key_of (get_or values i (pos 0)) → one ≡ cond (truth_at old key) 0 1 → ((n : ℕ) → truth_at new n ≡ ((n == key) || truth_at old n)) → KeysCounted values new (count + one) (i + 1)
KeysCounted-more values old new count one i key h was is new_one marks =
    let more : keys_of (take (i + 1) values) ≡ keys ++ pos key ∷ [] = keys_more values i h ∙ ap (λ k. keys ++ pos k ∷ []) (sym is) in
    record {
      marked = λ k. subst (λ (xs : List ℤ). (truth_at new k ≡ true) ↔ Has (pos k) xs) (sym more) (λ t. has_key k (cases_Bool (k == key)) (cases_Bool (truth_at old k)) t, λ g. mark_of k (Has-append (pos k) keys (pos key ∷ []) g));
      counted = subst (λ (xs : List ℤ). count + one ≡ length (distinct xs)) (sym more) (ap (λ k. count + k) new_one ∙ one_more (cases_Bool (truth_at old key)) ∙ sym (ap length (distinct-push keys (pos key))));
    }
  where
    keys : List ℤ
    keys = keys_of (take i values)

    has_key : (k : ℕ) → ((k == key) ≡ true) ⊎ ((k == key) ≡ false) → (truth_at old k ≡ true) ⊎ (truth_at old k ≡ false) → truth_at new k ≡ true → Has (pos k) (keys ++ pos key ∷ [])
    has_key k (inl e) _ t = Has-append_right (pos k) keys (pos key ∷ []) (inl (ap pos (eqb-true k key e)))
    has_key k (inr e) (inl o) t = Has-append_left (pos k) keys (pos key ∷ []) ((was.marked k).0 o)
    has_key k (inr e) (inr o) t = absurd (both_ways _ (ap (λ b. b || truth_at old k) e ∙ o) (sym (marks k) ∙ t))

    one_more : (truth_at old key ≡ true) ⊎ (truth_at old key ≡ false) → count + cond (truth_at old key) 0 1 ≡ length (distinct (pos key ∷ keys))
    one_more (inl t) =
        let stays : count + cond (truth_at old key) 0 1 ≡ count = ap (λ b. count + cond b 0 1) t ∙ omega arith in
        stays ∙ was.counted ∙ sym (ap length (distinct-old (pos key) keys ((was.marked key).0 t)))
    one_more (inr f) =
        ap (λ b. count + cond b 0 1) f ∙ ap (λ k. k + 1) was.counted ∙ sym (length-distinct_new (pos key) keys (λ h. both_ways _ f ((was.marked key).1 h)))

    mark_of : (k : ℕ) → Has (pos k) keys ⊎ Has (pos k) (pos key ∷ []) → truth_at new k ≡ true
    mark_of k (inl g) = marks k ∙ ap (λ b. (k == key) || b) ((was.marked k).1 g) ∙ or-true (k == key)
    mark_of k (inr (inl e)) = let same : k ≡ key = cc in marks k ∙ ap (λ b. b || truth_at old k) (eq-eqb k key same)
    mark_of k (inr (inr g)) = elim g [ ]

-- the keys of a front are no more than those of all values
pub KeysCounted-front : (values : List ℤ) (words : List ℕ) (count i : ℕ) → KeysCounted values words count i → count ≤ length (distinct (keys_of values))
KeysCounted-front values words count i h =
    omega (
      arith,
      h.counted,
      length-le_from_members (distinct (keys_of (take i values))) (distinct (keys_of values)) (Ascends-distinct (keys_of (take i values))) (Ascends-distinct (keys_of values))
          (λ z g. Has-distinct z (keys_of values) (in_whole z (Has-from_distinct z (keys_of (take i values)) g))),
    )
  where
    parts : keys_of (take i values) ++ keys_of (drop i values) ≡ keys_of values
    parts = sym (map-append (λ v. pos (key_of v)) (take i values) (drop i values)) ∙ ap keys_of (take-append-drop i values)

    in_whole : (z : ℤ) → Has z (keys_of (take i values)) → Has z (keys_of values)
    in_whole z g = subst (λ (xs : List ℤ). Has z xs) parts (Has-append_left z (keys_of (take i values)) (keys_of (drop i values)) g)

pub KeysCounted-bound : (values : List ℤ) (words : List ℕ) (count i : ℕ) → KeysCounted values words count i → count ≤ length values
KeysCounted-bound values words count i h =
    omega (arith, KeysCounted-front values words count i h, length-distinct (keys_of values), length-map values (λ v. pos (key_of v)))

pub at_most_one : (b : Bool) → cond b 0 1 ≤ 1
at_most_one true = omega arith
at_most_one false = omega arith

pub fewer_keys_than_values : (values : List ℤ) → length (distinct (keys_of values)) ≤ length (distinct values)
fewer_keys_than_values values = fewer_keys (λ v. pos (key_of v)) values

-- values from the least to the greatest that are near have one key only where they are one value
pub same_key_between : (low x y high : ℤ) → int_gap low high < 65536 → low ≤ℤ x → x ≤ℤ high → low ≤ℤ y → y ≤ℤ high → FitsSigned w64 x → FitsSigned w64 y → key_of x ≡ key_of y → x ≡ y
same_key_between low x y high near a b c d f g key = by_order (cases_Bool (int_lt y x))
  where
    at_most : (x y : ℤ) → x <ℤ y → x ≤ℤ y
    at_most x y l = omega (arith, ints)

    by_order : (int_lt y x ≡ true) ⊎ (int_lt y x ≡ false) → x ≡ y
    by_order (inr e) = let l : x ≤ℤ y = not_less_from_test y x e in same_key x y f g l (omega (arith, near, gap_within low x y high a l d)) key
    by_order (inl e) = let l : y ≤ℤ x = at_most y x (less_from_test y x e) in sym (same_key y x g f l (omega (arith, near, gap_within low y x high c l b)) (sym key))

-- values of which no two distinct ones have one key have as many keys as values
pub keys_apart : (values : List ℤ) → ((m n : ℕ) → m < length values → n < length values → key_of (get_or values m (pos 0)) ≡ key_of (get_or values n (pos 0)) → get_or values m (pos 0) ≡ get_or values n (pos 0)) → length (distinct (keys_of values)) ≡ length (distinct values)
keys_apart values apart =
    as_many_keys (λ v. pos (key_of v)) values
    (λ y z g h e.
    let m = place_of_member y values g in
    let n = place_of_member z values h in
    let key : key_of y ≡ key_of z = cc in
    sym m.2 ∙ apart m.0 n.0 m.1 n.1 (ap key_of m.2 ∙ key ∙ sym (ap key_of n.2)) ∙ n.2)
