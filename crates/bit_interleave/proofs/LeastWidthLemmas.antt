-- The least width of a number is 64 without its leading zeros.
use Rattle.std.proofs.Common.{◌≡◌, ℕ, suc, ◌+◌, ◌-◌, ◌*◌, ◌^◌, ◌<◌, ◌≤◌, refl, ◌∙◌, arith, ◌⊎◌, inl, inr}
use Rattle.std.specs.Int.{w64, leading_zeros}
use Rattle.std.proofs.lemmas.Nat.{leading_length}
use Rattle.std.proofs.Math.Nat.{pow-le-pow_right, pow-suc}
use Rattle.std.proofs.lemmas.Bool.{cases_lt}
use Rattle.bit_interleave.specs.Arithmetic.{least_width}

pub least_width_is : (n : ℕ) → least_width n ≡ 64 - leading_zeros w64 n
unfolding least_width
least_width_is n = refl

-- the width is the m of `leading_length`
least_width_at : (n m : ℕ) → leading_zeros w64 n + m ≡ 64 → least_width n ≡ m
least_width_at n m e = least_width_is n ∙ omega arith

-- the width holds the number
pub least_width-holds : (n : ℕ) → n < 2 ^ 64 → n < 2 ^ least_width n
least_width-holds n h =
    let p = leading_length 64 n h in
    rw (least_width_at n p.0 p.1) p.2

-- no smaller width does
pub least_width-least : (n v : ℕ) → n < 2 ^ 64 → n < 2 ^ v → least_width n ≤ v
least_width-least n v h k =
    let p = leading_length 64 n h in
    rw (least_width_at n p.0 p.1) (not_above n v p.0 k p.3 (cases_lt v p.0))
  where
    twice_below : (v m : ℕ) → v < m → 2 ^ suc v ≤ 2 ^ m
    twice_below v m above =
        let base : 0 < 2 = omega arith in
        let step : suc v ≤ m = omega arith in
        pow-le-pow_right base step

    not_above : (n v m : ℕ) → n < 2 ^ v → 2 ^ m ≤ 2 * n + 1 → (v < m) ⊎ (m ≤ v) → m ≤ v
    not_above n v m k top (inr le) = le
    not_above n v m k top (inl above) =
        absurd (omega (arith, twice_below v m above, pow-suc 2 v))

-- the least width is the only one that holds and is least
pub least_width_unique : (n w : ℕ) → n < 2 ^ 64 → n < 2 ^ w → ((v : ℕ) → n < 2 ^ v → w ≤ v) → least_width n ≡ w
least_width_unique n w h holds least =
    omega (arith, least_width-least n w h holds, least (least_width n) (least_width-holds n h))
