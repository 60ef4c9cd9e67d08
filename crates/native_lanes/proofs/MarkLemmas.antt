-- A row is marked once, by its piece.
use Rattle.std.proofs.Common.{◌≡◌, ◌≢◌, ◌==◌, ℕ, ◌+◌, ◌*◌, ◌^◌, ◌%◌, ◌<◌, ◌≤◌, ◌&&◌, ◌||◌, ◌⊎◌, inl, inr, Bool, true, false, nat_lt, bit_or, sym, ap, ◌∙◌, subst, arith}
use Rattle.std.specs.Int.{bit_at, Width}
use mir.Val.{bits, bool_byte}
use Rattle.std.proofs.Math.Nat.{zero-mod}
use Rattle.std.proofs.lemmas.Bool.{cases_lt}
use Rattle.std.proofs.lemmas.Bool.Decides.{nat_tests}
use Rattle.std.proofs.lemmas.Nat.Bits.{bit_at_set_same, bit_at_set_other, bit_at_or, bit_at-zero}
use Rattle.transpose_order.specs.Place.{IsLaneWidth, place_of}
use Rattle.bit_interleave.proofs.PieceLemmas.{place_of-place_of}
use Rattle.native_lanes.proofs.BoolLemmas.{differ, same_is, or_off, or_on}

-- one more piece is marked
abbrev IsMarked : (t q p : ℕ) → Bool → Bool → Type 0
IsMarked t q p now b = ((now && (p == place_of t q)) || (nat_lt (place_of t p) q && b)) ≡ (nat_lt (place_of t p) (q + 1) && b)

apart : (t q p : ℕ) (now b : Bool) → IsLaneWidth t → q < 64 → p < 64 → p ≢ place_of t q → IsMarked t q p now b
apart t q p now b width h k n =
    let forth : place_of t (place_of t p) ≡ p = (place_of-place_of t p width k).1 in
    let other : place_of t p ≢ q = (λ e. n (sym forth ∙ ap (place_of t) e)) in
    let tests : nat_lt (place_of t p) q ≡ nat_lt (place_of t p) (q + 1) = later (place_of t p) q other in
    ap (λ x. (now && x) || (nat_lt (place_of t p) q && b)) (differ p (place_of t q) n) ∙ or_off now (nat_lt (place_of t p) q && b) ∙ ap (λ x. x && b) tests
  where
    later : (a q : ℕ) → a ≢ q → nat_lt a q ≡ nat_lt a (q + 1)
    later a q n = grind (arith, nat_tests)

here : (t q p : ℕ) (now b : Bool) → IsLaneWidth t → q < 64 → p < 64 → (p ≡ place_of t q → now ≡ b) → p ≡ place_of t q → IsMarked t q p now b
here t q p now b width h k same e =
    let back : place_of t (place_of t q) ≡ q = (place_of-place_of t q width h).1 in
    let is : place_of t p ≡ q = ap (place_of t) e ∙ back in
    let equal : (p == place_of t q) ≡ true = ap (λ (x : ℕ). p == x) (sym e) ∙ same_is p in
    ap (λ x. (now && x) || (nat_lt (place_of t p) q && b)) equal ∙ ap (λ x. (now && true) || (x && b)) (off (place_of t p) q is)
    ∙ ap (λ x. (x && true) || (false && b)) (same e) ∙ (or_on b ∙ ap (λ x. x && b) (sym (on (place_of t p) q is)))
  where
    off : (a q : ℕ) → a ≡ q → nat_lt a q ≡ false
    off a q e = grind (arith, nat_tests)

    on : (a q : ℕ) → a ≡ q → nat_lt a (q + 1) ≡ true
    on a q e = grind (arith, nat_tests)

pub marked_more : (t q p : ℕ) (now b : Bool) → IsLaneWidth t → q < 64 → p < 64 → (p ≡ place_of t q → now ≡ b) → IsMarked t q p now b
marked_more t q p now b width h k same = by_case (cases_lt p (place_of t q)) (cases_lt (place_of t q) p)
  where
    by_case : (p < place_of t q) ⊎ (place_of t q ≤ p) → (place_of t q < p) ⊎ (p ≤ place_of t q) → IsMarked t q p now b
    by_case (inl l) _ = apart t q p now b width h k (λ e. omega (arith, e))
    by_case (inr l) (inl m) = apart t q p now b width h k (λ e. omega (arith, e))
    by_case (inr l) (inr m) = here t q p now b width h k same (omega arith)

-- a bit that is set where that is asked
set_bit : (w : Width) (word place p : ℕ) → place < bits w → p < bits w → (bit_at (bit_or word (1 * 2 ^ place % 2 ^ bits w)) p == 1) ≡ ((p == place) || (bit_at word p == 1))
set_bit w word place p h k = by_case (cases_lt p place) (cases_lt place p)
  where
    other : p ≢ place → (bit_at (bit_or word (1 * 2 ^ place % 2 ^ bits w)) p == 1) ≡ ((p == place) || (bit_at word p == 1))
    other n = ap (λ b. b == 1) (bit_at_set_other w word place h p n) ∙ ap (λ b. b || (bit_at word p == 1)) (sym (differ p place n))

    by_case : (p < place) ⊎ (place ≤ p) → (place < p) ⊎ (p ≤ place) → (bit_at (bit_or word (1 * 2 ^ place % 2 ^ bits w)) p == 1) ≡ ((p == place) || (bit_at word p == 1))
    by_case (inl l) _ = other (λ e. omega (arith, e))
    by_case (inr l) (inl m) = other (λ e. omega (arith, e))
    by_case (inr l) (inr m) =
        let e : place ≡ p = omega arith in
        subst (λ (x : ℕ). (bit_at (bit_or word (1 * 2 ^ place % 2 ^ bits w)) x == 1) ≡ ((x == place) || (bit_at word x == 1))) e
        (ap (λ b. b == 1) (bit_at_set_same w word place h) ∙ ap (λ b. b || (bit_at word place == 1)) (sym (same_is place)))

pub set_bit_if : (w : Width) (word place p : ℕ) (set : Bool) → place < bits w → p < bits w → (bit_at (bit_or word (bool_byte set * 2 ^ place % 2 ^ bits w)) p == 1) ≡ ((set && (p == place)) || (bit_at word p == 1))
set_bit_if w word place p true h k = set_bit w word place p h k
set_bit_if w word place p false h k =
    let none : 0 * 2 ^ place ≡ 0 = omega arith in
    ap (λ b. b == 1)
    (ap (λ x. bit_at (bit_or word x) p) (ap (λ x. x % 2 ^ bits w) none ∙ zero-mod (2 ^ bits w))
    ∙ bit_at_or word 0 p ∙ (let e = bit_at-zero p in omega arith))

-- one more bit is written
pub bit_more : (q p : ℕ) (now b : Bool) → (p ≡ q → now ≡ b) → ((now && (p == q)) || (nat_lt p q && b)) ≡ (nat_lt p (q + 1) && b)
bit_more q p now b same = by_case (cases_lt p q) (cases_lt q p)
  where
    before : p < q → ((now && (p == q)) || (nat_lt p q && b)) ≡ (nat_lt p (q + 1) && b)
    before l =
        let less : nat_lt p q ≡ nat_lt p (q + 1) = grind (arith, nat_tests) in
        ap (λ x. (now && x) || (nat_lt p q && b)) (differ p q (λ e. omega (arith, e))) ∙ or_off now (nat_lt p q && b) ∙ ap (λ x. x && b) less

    after : q < p → ((now && (p == q)) || (nat_lt p q && b)) ≡ (nat_lt p (q + 1) && b)
    after l =
        let less : nat_lt p q ≡ nat_lt p (q + 1) = grind (arith, nat_tests) in
        ap (λ x. (now && x) || (nat_lt p q && b)) (differ p q (λ e. omega (arith, e))) ∙ or_off now (nat_lt p q && b) ∙ ap (λ x. x && b) less

    at : p ≡ q → ((now && (p == q)) || (nat_lt p q && b)) ≡ (nat_lt p (q + 1) && b)
    at e =
        let equal : (p == q) ≡ true = grind (arith, nat_tests) in
        let not_less : nat_lt p q ≡ false = grind (arith, nat_tests) in
        let less : nat_lt p (q + 1) ≡ true = grind (arith, nat_tests) in
        ap (λ x. (now && x) || (nat_lt p q && b)) equal ∙ ap (λ x. (now && true) || (x && b)) not_less ∙ ap (λ x. (x && true) || (false && b)) (same e)
        ∙ or_on b ∙ ap (λ x. x && b) (sym less)

    by_case : (p < q) ⊎ (q ≤ p) → (q < p) ⊎ (p ≤ q) → ((now && (p == q)) || (nat_lt p q && b)) ≡ (nat_lt p (q + 1) && b)
    by_case (inl l) _ = before l
    by_case (inr l) (inl m) = after m
    by_case (inr l) (inr m) = at (omega arith)
