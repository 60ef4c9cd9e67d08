-- The least and the greatest of the numbers that pass a test.
use Rattle.std.specs.Prelude.{◌≡◌, ◌<◌, ◌≤◌, true, ℕ, zero, suc, ◌-◌, ◌*◌, ◌^◌, ℤ, pos, negsuc, ◌+ℤ◌, ◌≤ℤ◌, ◌↔◌, Bool, cond}
use Rattle.std.specs.Int.{int_min, int_max, int_wrap, int_gap}
use Rattle.bit_interleave.specs.Arithmetic.{integer_width, least_width}

-- the least of `first` and the f n of the n below k that pass p
unfoldable pub least_among : (ℕ → Bool) → (ℕ → ℤ) → ℤ → ℕ → ℤ
least_among p f first zero = first
least_among p f first (suc k) = cond (p k) (int_min (least_among p f first k) (f k)) (least_among p f first k)

-- the greatest of `first` and the f n of the n below k that pass p
unfoldable pub greatest_among : (ℕ → Bool) → (ℕ → ℤ) → ℤ → ℕ → ℤ
greatest_among p f first zero = first
greatest_among p f first (suc k) = cond (p k) (int_max (greatest_among p f first k) (f k)) (greatest_among p f first k)

-- x is one of the f n of the n below k that pass p, and is above none of them
pub record IsLeastAmong (p : ℕ → Bool) (f : ℕ → ℤ) (k : ℕ) (x : ℤ) : Type 0 where
  pub bound : (n : ℕ) → n < k → p n ≡ true → x ≤ℤ f n
  pub reached : (n : ℕ) × (n < k) × (p n ≡ true) × (x ≡ f n)

-- x is one of the f n of the n below k that pass p, and is below none of them
pub record IsGreatestAmong (p : ℕ → Bool) (f : ℕ → ℤ) (k : ℕ) (x : ℤ) : Type 0 where
  pub bound : (n : ℕ) → n < k → p n ≡ true → f n ≤ℤ x
  pub reached : (n : ℕ) × (n < k) × (p n ≡ true) × (x ≡ f n)

-- where some m below k passes, `least_among` from f m on is the least of those that pass, and nothing else is
abbrev pub LeastAmongIsLeast : Type 0
LeastAmongIsLeast =
    (p : ℕ → Bool) (f : ℕ → ℤ) (m k : ℕ) → m < k → p m ≡ true → (x : ℤ) → (x ≡ least_among p f (f m) k) ↔ IsLeastAmong p f k x

-- where some m below k passes, `greatest_among` from f m on is the greatest of those that pass, and nothing else is
abbrev pub GreatestAmongIsGreatest : Type 0
GreatestAmongIsGreatest =
    (p : ℕ → Bool) (f : ℕ → ℤ) (m k : ℕ) → m < k → p m ≡ true → (x : ℤ) → (x ≡ greatest_among p f (f m) k) ↔ IsGreatestAmong p f k x

-- low and high are the least and the greatest of the g n of the n below 1024 that pass p
pub record IsSpread (p : ℕ → Bool) (g : ℕ → ℕ) (low high : ℕ) : Type 0 where
  pub low_bound : (n : ℕ) → n < 1024 → p n ≡ true → low ≤ g n
  pub high_bound : (n : ℕ) → n < 1024 → p n ≡ true → g n ≤ high
  pub low_reached : (n : ℕ) × (n < 1024) × (p n ≡ true) × (low ≡ g n)
  pub high_reached : (n : ℕ) × (n < 1024) × (p n ≡ true) × (high ≡ g n)

-- packed numbers from low to high, both reached, are the least form over a reference: some number is 0, the width is the
-- least that holds the greatest number, and the reference plus that one doesn't wrap
pub record IsTightFrame (t width : ℕ) (reference : ℤ) (low high : ℕ) : Type 0 where
  pub zero : low ≡ 0
  pub least : width ≡ least_width high
  pub stays : reference ≤ℤ int_wrap (integer_width t) (reference +ℤ pos high)

-- how far a number of t bits is above the least of them, in the highest t of 64 bits: such numbers are in the order of signed ones
unfoldable pub at_top : ℕ → ℤ → ℕ
at_top t z = 2 ^ (64 - t) * int_gap (negsuc (2 ^ (t - 1) - 1)) z
