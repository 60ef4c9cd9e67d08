-- Words are compared bit by bit: a test of one bit of what `&`, `|` and `!` make is a test of theirs.
use Rattle.std.proofs.Common.{◌≡◌, ℕ, ◌+◌, ◌-◌, ◌*◌, ◌/◌, ◌%◌, ◌^◌, ◌<◌, ◌≤◌, Bool, true, false, not, ◌&&◌, ◌||◌, ◌==◌, min, max, nat_le, nat_lt, ◌⊎◌, inl, inr, bit_and, bit_or, refl, sym, ap, ◌∙◌, arith, if◌then◌else◌}
use Rattle.std.specs.Int.{bit_at, bit_not, w64}
use Rattle.std.proofs.lemmas.Bool.{cases_lt, lt-ltb, le-ltb, lt-leb, le-leb}
use Rattle.std.proofs.lemmas.Nat.{shr-shr, shr_split}
use Rattle.std.proofs.lemmas.Bool.Decides.{nat_tests}
use Rattle.std.proofs.lemmas.Nat.Bits.{bit_at-lt, bit_at_and, bit_at_or, bit_at_not, bit_at_cat_low, bit_at_ones, bit_at_ones_above, bit_at_mask_inside, bit_at_mask_below, ones_shr, ones_shl}

test_of_min : (x y : ℕ) → x < 2 → y < 2 → (min x y == 1) ≡ ((x == 1) && (y == 1))
test_of_min x y h k = grind (arith, nat_tests)

test_of_max : (x y : ℕ) → x < 2 → y < 2 → (max x y == 1) ≡ ((x == 1) || (y == 1))
test_of_max x y h k = grind (arith, nat_tests)

test_of_gap : (x : ℕ) → x < 2 → (1 - x == 1) ≡ not (x == 1)
test_of_gap x h = grind (arith, nat_tests)

pub bit_is_set-and : (a b p : ℕ) → (bit_at (bit_and a b) p == 1) ≡ ((bit_at a p == 1) && (bit_at b p == 1))
bit_is_set-and a b p = ap (λ x. x == 1) (bit_at_and a b p) ∙ test_of_min _ _ (bit_at-lt a p) (bit_at-lt b p)

pub bit_is_set-or : (a b p : ℕ) → (bit_at (bit_or a b) p == 1) ≡ ((bit_at a p == 1) || (bit_at b p == 1))
bit_is_set-or a b p = ap (λ x. x == 1) (bit_at_or a b p) ∙ test_of_max _ _ (bit_at-lt a p) (bit_at-lt b p)

pub bit_is_set-not : (a p : ℕ) → a < 2 ^ 64 → p < 64 → (bit_at (bit_not w64 a) p == 1) ≡ not (bit_at a p == 1)
bit_is_set-not a p fits h = ap (λ x. x == 1) (bit_at_not w64 a p fits h) ∙ test_of_gap _ (bit_at-lt a p)

bit_is_set-low_ones : (k p : ℕ) → (bit_at (2 ^ k - 1) p == 1) ≡ nat_lt p k
bit_is_set-low_ones k p = by_order (cases_lt p k)
  where
    by_order : (p < k) ⊎ (k ≤ p) → (bit_at (2 ^ k - 1) p == 1) ≡ nat_lt p k
    by_order (inl h) = ap (λ x. x == 1) (bit_at_ones k p h) ∙ sym (lt-ltb p k h)
    by_order (inr h) = ap (λ x. x == 1) (bit_at_ones_above k p h) ∙ sym (le-ltb p k h)

bit_is_set-high_ones : (k p : ℕ) → p < 64 → (bit_at (2 ^ 64 - 2 ^ k) p == 1) ≡ nat_le k p
bit_is_set-high_ones k p h = by_order (cases_lt p k)
  where
    by_order : (p < k) ⊎ (k ≤ p) → (bit_at (2 ^ 64 - 2 ^ k) p == 1) ≡ nat_le k p
    by_order (inl l) = ap (λ x. x == 1) (bit_at_mask_below k 64 p l) ∙ sym (lt-leb k p l)
    by_order (inr l) = ap (λ x. x == 1) (bit_at_mask_inside k 64 p l h) ∙ sym (le-leb k p l)

-- `MAX >> (64 - k)` has the k low bits set
pub bit_is_set-shr_ones : (k p : ℕ) → k ≤ 64 → (bit_at ((2 ^ 64 - 1) / 2 ^ (64 - k)) p == 1) ≡ nat_lt p k
bit_is_set-shr_ones k p within =
    let back : 64 - (64 - k) ≡ k = omega arith in
    ap (λ x. bit_at x p == 1) (ones_shr 64 (64 - k) (omega arith)) ∙ ap (λ m. bit_at (2 ^ m - 1) p == 1) back ∙ bit_is_set-low_ones k p

-- the bits of `MAX << low & MAX >> (64 - high)`
pub bit_is_set-ones : (low high p : ℕ) → low < high → high ≤ 64 → p < 64 → (bit_at (bit_and ((2 ^ 64 - 1) * 2 ^ low % 2 ^ 64) ((2 ^ 64 - 1) / 2 ^ (64 - high))) p == 1) ≡ (nat_le low p && nat_lt p high)
bit_is_set-ones low high p order within h =
    let above = ap (λ x. bit_at x p == 1) (ones_shl 64 low (omega arith)) ∙ bit_is_set-high_ones low p h in
    let below = bit_is_set-shr_ones high p within in
    bit_is_set-and ((2 ^ 64 - 1) * 2 ^ low % 2 ^ 64) ((2 ^ 64 - 1) / 2 ^ (64 - high)) p ∙ ap (λ x. x && (bit_at ((2 ^ 64 - 1) / 2 ^ (64 - high)) p == 1)) above ∙ ap (λ y. nat_le low p && y) below

-- a word with some bits set, and with some bits cleared
pub chosen_or : (x y b : Bool) → y ≡ b → (x || y) ≡ (if b then true else x)
chosen_or true y true e = refl
chosen_or true y false e = refl
chosen_or false y true e = e
chosen_or false y false e = e

pub chosen_and_not : (x y b : Bool) → y ≡ b → (x && not y) ≡ (if b then false else x)
chosen_and_not true y true e = ap not e
chosen_and_not true y false e = ap not e
chosen_and_not false y true e = refl
chosen_and_not false y false e = refl

pub bit_at-shr : (n j k : ℕ) → bit_at (n / 2 ^ j) k ≡ bit_at n (j + k)
bit_at-shr n j k = ap (λ x. x % 2) (shr-shr n j k)

pub bit_at-mod : (x m i : ℕ) → i < m → bit_at (x % 2 ^ m) i ≡ bit_at x i
bit_at-mod x m i h =
    sym (bit_at_cat_low (x / 2 ^ m) m (x % 2 ^ m) i h) ∙ ap (λ y. bit_at y i) (shr_split x m)
