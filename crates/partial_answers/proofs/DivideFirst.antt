-- A mean by division first: no product leaves 128 bits.
use Rattle.std.specs.Prelude.{◌≡◌, ℕ, zero, suc, ◌+◌, ◌*◌, ◌/◌, ◌%◌, ◌<◌, ◌≤◌, ◌^◌, FitsSigned, ℤ, pos, negsuc, neg_ℤ, ◌+ℤ◌, ◌*ℤ◌, int_div, int_rem}
use Rattle.std.proofs.Common.{refl, sym, ap, ◌∙◌, arith}
use Rattle.std.proofs.Math.Nat.{mul-add-div, div-add-mod, zero-div, div-le_of_le-mul, mod-lt}
use Rattle.table_model.specs.Group.{IsWithin}
use Rattle.std.specs.Int.{w128}
use Rattle.std.proofs.lemmas.Int.{ints}

-- of naturals
first_divided : (a m n : ℕ) → 0 < n → (a * m) / n ≡ (a / n) * m + ((a % n) * m) / n
first_divided a m n h =
    let apart : n * (a / n) + a % n ≡ a = div-add-mod a n in
    let spread : a * m ≡ n * ((a / n) * m) + (a % n) * m = sym (ap (λ k. k * m) apart) ∙ shuffled n (a / n) (a % n) m in
    ap (λ k. k / n) spread ∙ mul-add-div h ((a / n) * m) ((a % n) * m)
  where
    shuffled : (n q r m : ℕ) → (n * q + r) * m ≡ n * (q * m) + r * m
    shuffled n q r m = omega arith

below_zero : (k n : ℕ) → int_div (neg_ℤ (pos k)) (pos n) ≡ neg_ℤ (pos (k / n))
below_zero zero n = ap pos (zero-div n) ∙ sym (ap (λ j. neg_ℤ (pos j)) (zero-div n))
below_zero (suc k) n = refl

times : (k : ℕ) → neg_ℤ (pos k) *ℤ pos 1000000 ≡ neg_ℤ (pos (k * 1000000))
times k = omega (arith, ints)

positive : (a b c : ℕ) → c ≡ a * 1000000 + b → pos c ≡ (pos a *ℤ pos 1000000) +ℤ pos b
positive a b c e = omega (arith, ints, e)

negative : (a b c : ℕ) → c ≡ a * 1000000 + b → neg_ℤ (pos c) ≡ (neg_ℤ (pos a) *ℤ pos 1000000) +ℤ neg_ℤ (pos b)
negative a b c e = omega (arith, ints, e)

pub mean_first : (z : ℤ) (n : ℕ) → 0 < n → int_div (z *ℤ pos 1000000) (pos n) ≡ (int_div z (pos n) *ℤ pos 1000000) +ℤ int_div (int_rem z (pos n) *ℤ pos 1000000) (pos n)
mean_first (pos a) n h = positive (a / n) ((a % n) * 1000000 / n) (a * 1000000 / n) (first_divided a 1000000 n h)
mean_first (negsuc a) n h =
    ap (λ x. int_div x (pos n)) (times (suc a)) ∙ below_zero (suc a * 1000000) n
    ∙ negative (suc a / n) ((suc a % n) * 1000000 / n) (suc a * 1000000 / n) (first_divided (suc a) 1000000 n h)
    ∙ ap (λ x. (int_div (negsuc a) (pos n) *ℤ pos 1000000) +ℤ x) (sym (ap (λ x. int_div x (pos n)) (times (suc a % n)) ∙ below_zero ((suc a % n) * 1000000) n))

-- ---- bounds
up_to : (a k : ℕ) → a ≤ k → IsWithin k (pos a)
up_to a k h = (omega (arith, ints, h), omega (arith, ints, h))

down_to : (a k : ℕ) → a ≤ k → IsWithin k (neg_ℤ (pos a))
down_to a k h = (omega (arith, ints, h), omega (arith, ints, h))

above : (a k : ℕ) → IsWithin k (pos a) → a ≤ k
above a k h = omega (arith, ints, h.1)

beneath : (a k : ℕ) → IsWithin k (negsuc a) → suc a ≤ k
beneath a k h = omega (arith, ints, h.0)

-- the quotient of a number that is so many times within a bound
pub quotient_within : (z : ℤ) (n k : ℕ) → IsWithin (n * k) z → IsWithin k (int_div z (pos n))
quotient_within (pos a) n k h = up_to (a / n) k (div-le_of_le-mul n (above a (n * k) h))
quotient_within (negsuc a) n k h = down_to (suc a / n) k (div-le_of_le-mul n (beneath a (n * k) h))

-- what a remainder gives is within a million
pub rest_within : (z : ℤ) (n : ℕ) → 0 < n → IsWithin 1000000 (int_div (int_rem z (pos n) *ℤ pos 1000000) (pos n))
rest_within (pos a) n h = up_to ((a % n) * 1000000 / n) 1000000 (div-le_of_le-mul n (few (a % n) n (mod-lt a h)))
  where
    few : (r n : ℕ) → r < n → r * 1000000 ≤ n * 1000000
    few r n h = omega arith
rest_within (negsuc a) n h =
    let is : int_div (int_rem (negsuc a) (pos n) *ℤ pos 1000000) (pos n) ≡ neg_ℤ (pos ((suc a % n) * 1000000 / n)) = ap (λ x. int_div x (pos n)) (times (suc a % n)) ∙ below_zero ((suc a % n) * 1000000) n in
    rw is (down_to ((suc a % n) * 1000000 / n) 1000000 (div-le_of_le-mul n (few (suc a % n) n (mod-lt (suc a) h))))
  where
    few : (r n : ℕ) → r < n → r * 1000000 ≤ n * 1000000
    few r n h = omega arith

fits_within : (z : ℤ) → IsWithin (2 ^ 126) z → FitsSigned w128 z
fits_within (pos n) h = record { sfits = omega (arith, above n (2 ^ 126) h) }
fits_within (negsuc n) h = record { sfits = omega (arith, beneath n (2 ^ 126) h) }

-- a quotient of few values fits as millionths
pub product_fits : (z : ℤ) (n : ℕ) → IsWithin (n * 2 ^ 63) z → FitsSigned w128 (int_div z (pos n) *ℤ pos 1000000)
product_fits z n h =
    let q : IsWithin (2 ^ 63) (int_div z (pos n)) = quotient_within z n (2 ^ 63) h in
    fits_within _ (omega (arith, ints, q.0, q.1), omega (arith, ints, q.0, q.1))

-- and so does the mean
pub mean_fits : (z : ℤ) (n : ℕ) → 0 < n → IsWithin (n * 2 ^ 63) z → FitsSigned w128 ((int_div z (pos n) *ℤ pos 1000000) +ℤ int_div (int_rem z (pos n) *ℤ pos 1000000) (pos n))
mean_fits z n some h =
    let q : IsWithin (2 ^ 63) (int_div z (pos n)) = quotient_within z n (2 ^ 63) h in
    let r : IsWithin 1000000 (int_div (int_rem z (pos n) *ℤ pos 1000000) (pos n)) = rest_within z n some in
    fits_within _ (omega (arith, ints, q.0, q.1, r.0, r.1), omega (arith, ints, q.0, q.1, r.0, r.1))
