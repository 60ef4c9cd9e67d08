-- The tests of a dictionary: codes pass exactly where each is below the count, and values that pass one after another ascend.
use Rattle.std.proofs.Common.{◌≡◌, ℕ, zero, suc, ◌+◌, ◌-◌, ◌<◌, ◌≤◌, Bool, true, false, ◌||◌, ◌==◌, ltb, ◌⊎◌, inl, inr, ℤ, pos, int_lt, ◌<ℤ◌, List, [], ◌∷◌, ◌++◌, length, subst, refl, sym, ap, ◌∙◌, arith}
use Rattle.std.specs.List.{list_all, range_with_len}
use Rattle.std.proofs.lemmas.Bool.{ltb-true, lt-ltb, and_parts, and_from, cases_lt, ne_eqb}
use Rattle.bit_interleave.specs.PackedWords.{PackedWords}
use Rattle.std.proofs.lemmas.List.{get_or_append_left, length-append}
use Rattle.std.proofs.Math.Seq.{get_or-append_seam}
use Rattle.bit_interleave.specs.Range.{value_at}
use Rattle.run_dictionary.specs.Dict.{AreCodesBelow, IsAscending, packed_code}
use Rattle.run_dictionary.proofs.OrderLemmas.{less_from_test}
use Rattle.segment_core.specs.VectorBytes.{are_codes_below, is_above}

each_at : (p : ℕ → Bool) (a k : ℕ) → p a ≡ true → (a + 1 ≤ k → p k ≡ true) → a ≤ k → (a < k) ⊎ (k ≤ a) → p k ≡ true
each_at p a k first others from (inl later) = others (omega arith)
each_at p a k first others from (inr last) = let same : k ≡ a = omega arith in ap p same ∙ first

each : (p : ℕ → Bool) (a n : ℕ) → list_all p (range_with_len a n) ≡ true → (k : ℕ) → a ≤ k → k < a + n → p k ≡ true
each p a zero e k from below = absurd (omega arith)
each p a (suc n) e k from below =
    let v = and_parts (p a) (list_all p (range_with_len (a + 1) n)) e in
    each_at p a k v.0 (λ later. each p (a + 1) n v.1 k later (omega arith)) from (cases_lt a k)

every : (p : ℕ → Bool) (a n : ℕ) → ((k : ℕ) → a ≤ k → k < a + n → p k ≡ true) → list_all p (range_with_len a n) ≡ true
every p a zero h = refl
every p a (suc n) h =
    and_from (p a) (list_all p (range_with_len (a + 1) n)) (h a (omega arith) (omega arith)) (every p (a + 1) n (λ k from below. h k (omega arith) (omega arith)))

second_of : (x y : Bool) → x ≡ false → (x || y) ≡ true → y ≡ true
second_of false y e h = h
second_of true y e h = absurd cc

pub tested_codes : (width count : ℕ) (codes : PackedWords) → are_codes_below width count codes ≡ true → AreCodesBelow width codes count
unfolding are_codes_below
tested_codes width count codes e n below = ltb-true _ _ (each (λ n. ltb (packed_code width codes n) count) 0 1024 e n (omega arith) (omega arith))

pub codes_are_tested : (width count : ℕ) (codes : PackedWords) → AreCodesBelow width codes count → are_codes_below width count codes ≡ true
unfolding are_codes_below
codes_are_tested width count codes h = every (λ n. ltb (packed_code width codes n) count) 0 1024 (λ k from below. lt-ltb _ _ (h k below))

-- a value above the last of an ascending list goes on ascending
rises_at : (front : List ℤ) (value : ℤ) → IsAscending front → is_above front value ≡ true → (k : ℕ) → k + 1 < length (front ++ value ∷ [])
    → (k + 1 < length front) ⊎ (length front ≤ k + 1) → value_at (front ++ value ∷ []) k <ℤ value_at (front ++ value ∷ []) (k + 1)
rises_at front value rises above k below (inl inside) =
    rw (get_or_append_left front (value ∷ []) (pos 0) k (omega arith), get_or_append_left front (value ∷ []) (pos 0) (k + 1) inside) (rises k inside)
rises_at front value rises above k below (inr last) =
    let at : length front ≡ k + 1 = omega (arith, length-append front (value ∷ [])) in
    let place : length front - 1 ≡ k = omega arith in
    let some : (length front == 0) ≡ false = ne_eqb _ _ (omega arith) in
    let less : int_lt (value_at front (length front - 1)) value ≡ true = second_of (length front == 0) (int_lt (value_at front (length front - 1)) value) some above in
    let here : value_at front k <ℤ value = subst (λ (n : ℕ). value_at front n <ℤ value) place (less_from_test _ _ less) in
    let seam : value_at (front ++ value ∷ []) (k + 1) ≡ value = ap (value_at (front ++ value ∷ [])) (sym at) ∙ get_or-append_seam front value [] (pos 0) in
    rw (get_or_append_left front (value ∷ []) (pos 0) k (omega arith), seam) here

pub rises_on : (front : List ℤ) (value : ℤ) → IsAscending front → is_above front value ≡ true → IsAscending (front ++ value ∷ [])
rises_on front value rises above k below = rises_at front value rises above k below (cases_lt (k + 1) (length front))

pub same_codes_test : (width count : ℕ) (codes : PackedWords) (b : Bool) → (b ≡ true → AreCodesBelow width codes count) → (AreCodesBelow width codes count → b ≡ true) → b ≡ are_codes_below width count codes
same_codes_test width count codes true there back = sym (codes_are_tested width count codes (there refl))
same_codes_test width count codes false there back = sym (fails (are_codes_below width count codes) (λ e. absurd_at (back (tested_codes width count codes e))))
  where
    absurd_at : false ≡ true → ⊥
    absurd_at e = absurd cc

    fails : (t : Bool) → (t ≡ true → ⊥) → t ≡ false
    fails true h = absurd (h refl)
    fails false h = refl
