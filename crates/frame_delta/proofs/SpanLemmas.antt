-- The least and the greatest of numbers in the order of signed ones have the width of the signed ones' range.
use Rattle.std.proofs.Common.{◌≡◌, ℕ, ◌+◌, ◌-◌, ◌*◌, ◌/◌, ◌%◌, ◌^◌, ◌<◌, ◌≤◌, ◌⊎◌, inl, inr, ℤ, pos, negsuc, ◌+ℤ◌, ◌-ℤ◌, ◌≤ℤ◌, Bool, true, false, cond, nat_lt, min, max, List, map, length, get_or, bit_and, replicate, sym, ap, ◌∙◌, arith}
use Rattle.std.specs.Int.{w8, w16, w32, w64, int_wrap, int_gap, cast_signed}
use Rattle.std.specs.Int.RustNames.{FitsSigned}
use Rattle.std.specs.Simd.Lanes.{zip2, sel_l, top}
use Rattle.std.proofs.lemmas.Bool.{cases_lt}
use Rattle.std.proofs.lemmas.Bool.Decides.{nat_tests}
use Rattle.std.proofs.lemmas.Int.{ints, int_wrap-add_same}
use Rattle.std.proofs.lemmas.Simd.{length-zip2, get_or-zip2, get_or-replicate, length-replicate, tops_compared, get_or-sel_l}
use Rattle.transpose_order.specs.Place.{IsLaneWidth}
use Rattle.transpose_order.proofs.WidthLemmas.{at_widths}
use Rattle.bit_interleave.specs.Arithmetic.{integer_width, least_width}
use Rattle.bit_interleave.proofs.BitLemmas.{low_ones}
use Rattle.bit_interleave.proofs.LeastWidthLemmas.{least_width-holds, least_width-least}
use Rattle.bit_interleave.proofs.GapLemmas.{gap_back, gap_within}
use Rattle.bit_interleave.proofs.WrapLemmas.{int_wrap_pos, int_wrap-mod}
use Rattle.frame_delta.specs.Extremes.{at_top}
use Rattle.frame_delta.proofs.GapLemmas.{gap_of_sum}
use Rattle.frame_delta.proofs.FramedLemmas.{least_of, greatest_of, least_is_low, greatest_is_high, least_is_at, greatest_is_at, range_in_lane, below_word}

-- ---- lanes
smaller : (x y : ℕ) → cond (nat_lt x y) x y ≡ min x y
smaller x y = grind (arith, nat_tests)

larger : (x y : ℕ) → cond (nat_lt x y) y x ≡ max x y
larger x y = grind (arith, nat_tests)

-- the lanes that a comparison picks
picked : (xs ys us vs : List ℕ) (i : ℕ) → length xs ≡ 16 → length ys ≡ 16 → length us ≡ 16 → length vs ≡ 16 → i < 16 → get_or (sel_l (map (top 63) (zip2 (λ a b. cond (nat_lt a b) (2 ^ 64 - 1) 0) xs ys)) us vs) i 0 ≡ cond (nat_lt (get_or xs i 0) (get_or ys i 0)) (get_or us i 0) (get_or vs i 0)
picked xs ys us vs i one other left right h =
    let tests = length-zip2 nat_lt xs ys (one ∙ sym other) in
    ap (λ ms. get_or (sel_l ms us vs) i 0) (tops_compared w64 nat_lt xs ys)
    ∙ get_or-sel_l (zip2 nat_lt xs ys) us vs i 0 (omega (arith, tests)) (omega arith) (omega arith)
    ∙ ap (λ b. cond b (get_or us i 0) (get_or vs i 0)) (get_or-zip2 nat_lt xs ys i 0 0 false (omega arith) (omega arith))

pub lane_min : (xs ys : List ℕ) (i : ℕ) → length xs ≡ 16 → length ys ≡ 16 → i < 16 → get_or (sel_l (map (top 63) (zip2 (λ a b. cond (nat_lt a b) (2 ^ 64 - 1) 0) xs ys)) xs ys) i 0 ≡ min (get_or xs i 0) (get_or ys i 0)
lane_min xs ys i one other h = picked xs ys xs ys i one other one other h ∙ smaller (get_or xs i 0) (get_or ys i 0)

pub lane_max : (xs ys : List ℕ) (i : ℕ) → length xs ≡ 16 → length ys ≡ 16 → i < 16 → get_or (sel_l (map (top 63) (zip2 (λ a b. cond (nat_lt a b) (2 ^ 64 - 1) 0) xs ys)) ys xs) i 0 ≡ max (get_or xs i 0) (get_or ys i 0)
lane_max xs ys i one other h = picked xs ys ys xs i one other other one h ∙ larger (get_or xs i 0) (get_or ys i 0)

-- ---- numbers in the order of signed ones
pub at_top_is : (t y : ℕ) → IsLaneWidth t → (y * 2 ^ (64 - t) % 2 ^ 64 + 2 ^ 63) % 2 ^ 64 ≡ at_top t (int_wrap (integer_width t) (pos y))
unfolding at_top
at_top_is t y width =
    at_widths (λ t. (y * 2 ^ (64 - t) % 2 ^ 64 + 2 ^ 63) % 2 ^ 64 ≡ 2 ^ (64 - t) * int_gap (negsuc (2 ^ (t - 1) - 1)) (int_wrap (integer_width t) (pos y)))
    (rw (int_wrap_pos w8 y, gap_of_sum (negsuc (2 ^ 7 - 1)) (cast_signed w8 (y % 2 ^ 8)) ((y % 2 ^ 8 + 2 ^ 7) % 2 ^ 8) (grind (arith, ints))) (omega arith))
    (rw (int_wrap_pos w16 y, gap_of_sum (negsuc (2 ^ 15 - 1)) (cast_signed w16 (y % 2 ^ 16)) ((y % 2 ^ 16 + 2 ^ 15) % 2 ^ 16) (grind (arith, ints))) (omega arith))
    (rw (int_wrap_pos w32 y, gap_of_sum (negsuc (2 ^ 31 - 1)) (cast_signed w32 (y % 2 ^ 32)) ((y % 2 ^ 32 + 2 ^ 31) % 2 ^ 32) (grind (arith, ints))) (omega arith))
    (rw (int_wrap_pos w64 y, gap_of_sum (negsuc (2 ^ 63 - 1)) (cast_signed w64 (y % 2 ^ 64)) ((y % 2 ^ 64 + 2 ^ 63) % 2 ^ 64) (grind (arith, ints))) (omega arith))
    t width

pub ordered_lane : (t i : ℕ) (lanes : List ℕ) → IsLaneWidth t → length lanes ≡ 16 → i < 16 → get_or (zip2 (λ a b. (a + b) % 2 ^ 64) (zip2 (λ a b. a * 2 ^ b % 2 ^ 64) lanes (replicate 16 (64 - t))) (replicate 16 (2 ^ 63))) i 0 ≡ at_top t (int_wrap (integer_width t) (pos (get_or lanes i 0)))
ordered_lane t i lanes width long h =
    let up = replicate 16 (64 - t) in
    let moved = zip2 (λ a b. a * 2 ^ b % 2 ^ 64) lanes up in
    let count = length-zip2 (λ (a b : ℕ). a * 2 ^ b % 2 ^ 64) lanes up (long ∙ sym (length-replicate 16 (64 - t))) in
    get_or-zip2 (λ a b. (a + b) % 2 ^ 64) moved (replicate 16 (2 ^ 63)) i 0 0 0 (omega (arith, count)) (omega (arith, length-replicate 16 (2 ^ 63)))
    ∙ ap (λ x. (x + get_or (replicate 16 (2 ^ 63)) i 0) % 2 ^ 64) (get_or-zip2 (λ a b. a * 2 ^ b % 2 ^ 64) lanes up i 0 0 0 (omega (arith, long)) (omega (arith, length-replicate 16 (64 - t))))
    ∙ ap (λ x. (get_or lanes i 0 * 2 ^ get_or up i 0 % 2 ^ 64 + x) % 2 ^ 64) (get_or-replicate 16 i (2 ^ 63) 0 h)
    ∙ ap (λ x. (get_or lanes i 0 * 2 ^ x % 2 ^ 64 + 2 ^ 63) % 2 ^ 64) (get_or-replicate 16 i (64 - t) 0 h)
    ∙ at_top_is t (get_or lanes i 0) width

pub length-ordered : (t : ℕ) (lanes : List ℕ) → length lanes ≡ 16 → length (zip2 (λ a b. (a + b) % 2 ^ 64) (zip2 (λ a b. a * 2 ^ b % 2 ^ 64) lanes (replicate 16 (64 - t))) (replicate 16 (2 ^ 63))) ≡ 16
length-ordered t lanes long =
    let up = replicate 16 (64 - t) in
    let moved = zip2 (λ a b. a * 2 ^ b % 2 ^ 64) lanes up in
    let count = length-zip2 (λ (a b : ℕ). a * 2 ^ b % 2 ^ 64) lanes up (long ∙ sym (length-replicate 16 (64 - t))) ∙ long in
    length-zip2 (λ a b. (a + b) % 2 ^ 64) moved (replicate 16 (2 ^ 63)) (count ∙ sym (length-replicate 16 (2 ^ 63))) ∙ count

-- the low bits of a lane
pub low_bits_lane : (t i : ℕ) (lanes : List ℕ) → t ≤ 64 → length lanes ≡ 16 → i < 16 → get_or (zip2 bit_and lanes (replicate 16 ((2 ^ 64 - 1) / 2 ^ (64 - t)))) i 0 ≡ get_or lanes i 0 % 2 ^ t
low_bits_lane t i lanes within long h =
    let mask = (2 ^ 64 - 1) / 2 ^ (64 - t) in
    get_or-zip2 bit_and lanes (replicate 16 mask) i 0 0 0 (omega (arith, long)) (omega (arith, length-replicate 16 mask))
    ∙ ap (bit_and (get_or lanes i 0)) (get_or-replicate 16 i mask 0 h)
    ∙ low_ones (get_or lanes i 0) t within

pub length-low_bits : (t : ℕ) (lanes : List ℕ) → length lanes ≡ 16 → length (zip2 bit_and lanes (replicate 16 ((2 ^ 64 - 1) / 2 ^ (64 - t)))) ≡ 16
length-low_bits t lanes long =
    length-zip2 bit_and lanes (replicate 16 ((2 ^ 64 - 1) / 2 ^ (64 - t))) (long ∙ sym (length-replicate 16 ((2 ^ 64 - 1) / 2 ^ (64 - t)))) ∙ long

-- a number's low bits wrap as the number does
pub low_bits_wrap : (t x : ℕ) → IsLaneWidth t → int_wrap (integer_width t) (pos (x % 2 ^ t)) ≡ int_wrap (integer_width t) (pos x)
low_bits_wrap t x width =
    at_widths (λ t. int_wrap (integer_width t) (pos (x % 2 ^ t)) ≡ int_wrap (integer_width t) (pos x))
    (rw (int_wrap_pos w8 (x % 2 ^ 8), int_wrap_pos w8 x) (ap (cast_signed w8) (omega arith)))
    (rw (int_wrap_pos w16 (x % 2 ^ 16), int_wrap_pos w16 x) (ap (cast_signed w16) (omega arith)))
    (rw (int_wrap_pos w32 (x % 2 ^ 32), int_wrap_pos w32 x) (ap (cast_signed w32) (omega arith)))
    (rw (int_wrap_pos w64 (x % 2 ^ 64), int_wrap_pos w64 x) (ap (cast_signed w64) (omega arith)))
    t width

pub low_below : (t x : ℕ) → IsLaneWidth t → x % 2 ^ t < 2 ^ t
low_below t x width =
    at_widths (λ t. x % 2 ^ t < 2 ^ t) (omega arith) (omega arith) (omega arith) (omega arith) t width

-- a difference of 64 bits wraps as the numbers' difference does
pub wrapped_bits_difference : (t a b : ℕ) → IsLaneWidth t → b < 2 ^ 64 → int_wrap (integer_width t) (pos ((a + (2 ^ 64 - b)) % 2 ^ 64)) ≡ int_wrap (integer_width t) (pos a -ℤ pos b)
wrapped_bits_difference t a b width h =
    let apart : pos (a + (2 ^ 64 - b)) ≡ pos (2 ^ 64) +ℤ (pos a -ℤ pos b) = omega (arith, ints, h) in
    let none : pos 0 +ℤ (pos a -ℤ pos b) ≡ pos a -ℤ pos b = omega (arith, ints) in
    int_wrap-mod t (a + (2 ^ 64 - b)) width
    ∙ ap (int_wrap (integer_width t)) apart
    ∙ int_wrap-add_same (integer_width t) (pos (2 ^ 64)) (pos 0) (pos a -ℤ pos b) (sym (int_wrap-mod t (2 ^ 64) width))
    ∙ ap (int_wrap (integer_width t)) none

-- a signed number is the least of t bits plus how far it is above that
above_lowest : (t : ℕ) (z : ℤ) → IsLaneWidth t → FitsSigned (integer_width t) z → negsuc (2 ^ (t - 1) - 1) +ℤ pos (int_gap (negsuc (2 ^ (t - 1) - 1)) z) ≡ z
above_lowest t z width fits = gap_back (negsuc (2 ^ (t - 1) - 1)) z (lowest t z width fits)
  where
    lowest : (t : ℕ) (z : ℤ) → IsLaneWidth t → FitsSigned (integer_width t) z → negsuc (2 ^ (t - 1) - 1) ≤ℤ z
    lowest t z width =
        at_widths (λ t. FitsSigned (integer_width t) z → negsuc (2 ^ (t - 1) - 1) ≤ℤ z)
        (λ f. grind (arith, ints)) (λ f. grind (arith, ints)) (λ f. grind (arith, ints)) (λ f. grind (arith, ints)) t width

tops_order : (t x y : ℕ) → IsLaneWidth t → 2 ^ (64 - t) * x ≤ 2 ^ (64 - t) * y → x ≤ y
tops_order t x y width =
    at_widths (λ t. 2 ^ (64 - t) * x ≤ 2 ^ (64 - t) * y → x ≤ y) (λ h. omega arith) (λ h. omega arith) (λ h. omega arith) (λ h. omega arith) t width

tops_apart : (t x y : ℕ) → IsLaneWidth t → (2 ^ (64 - t) * x - 2 ^ (64 - t) * y) / 2 ^ (64 - t) ≡ x - y
tops_apart t x y width =
    at_widths (λ t. (2 ^ (64 - t) * x - 2 ^ (64 - t) * y) / 2 ^ (64 - t) ≡ x - y) (omega arith) (omega arith) (omega arith) (omega arith) t width

at_top-order : (t : ℕ) (x y : ℤ) → IsLaneWidth t → FitsSigned (integer_width t) x → FitsSigned (integer_width t) y → at_top t x ≤ at_top t y → x ≤ℤ y
unfolding at_top
at_top-order t x y width f g h =
    let low = negsuc (2 ^ (t - 1) - 1) in
    omega (arith, ints, above_lowest t x width f, above_lowest t y width g, tops_order t (int_gap low x) (int_gap low y) width h)

at_top-gap : (t : ℕ) (x y : ℤ) → IsLaneWidth t → FitsSigned (integer_width t) x → FitsSigned (integer_width t) y → x ≤ℤ y → (at_top t y - at_top t x) / 2 ^ (64 - t) ≡ int_gap x y
unfolding at_top
at_top-gap t x y width f g h =
    let low = negsuc (2 ^ (t - 1) - 1) in
    let e = above_lowest t x width f in
    let k = above_lowest t y width g in
    let order : int_gap low x ≤ int_gap low y = omega (arith, ints, e, k, h) in
    tops_apart t (int_gap low y) (int_gap low x) width
    ∙ sym (gap_of_sum x y (int_gap low y - int_gap low x) (omega (arith, ints, e, k, order)))

-- ---- spans
-- low and high are the least and the greatest of the g n of the rows n that pass
pub record IsSpan (P : ℕ → Type 0) (g : ℕ → ℕ) (low high : ℕ) : Type 0 where
  pub low_bound : (n : ℕ) → n < 1024 → P n → low ≤ g n
  pub high_bound : (n : ℕ) → n < 1024 → P n → g n ≤ high
  pub low_at : ℕ
  pub low_within : low_at < 1024
  pub low_passes : P low_at
  pub low_reached : low ≡ g low_at
  pub high_at : ℕ
  pub high_within : high_at < 1024
  pub high_passes : P high_at
  pub high_reached : high ≡ g high_at

-- the same in each of sixteen lanes of rows
pub record IsLaneSpan (P : ℕ → Type 0) (g : ℕ → ℕ) (least greatest : List ℕ) : Type 0 where
  pub low_bound : (n : ℕ) → n < 1024 → P n → get_or least (n / 64) 0 ≤ g n
  pub high_bound : (n : ℕ) → n < 1024 → P n → g n ≤ get_or greatest (n / 64) 0
  pub low_reached : (i : ℕ) → i < 16 → (n : ℕ) × (n < 1024) × P n × (get_or least i 0 ≡ g n)
  pub high_reached : (i : ℕ) → i < 16 → (n : ℕ) × (n < 1024) × P n × (get_or greatest i 0 ≡ g n)

-- the rows of one place
pub span_of_place : (P : ℕ → Type 0) (g : ℕ → ℕ) (place : ℕ) (lanes least greatest : List ℕ) → place < 64 → ((i : ℕ) → i < 16 → get_or lanes i 0 ≡ g (64 * i + place)) → ((i : ℕ) → i < 16 → get_or least i 0 ≡ get_or lanes i 0) → ((i : ℕ) → i < 16 → get_or greatest i 0 ≡ get_or lanes i 0) → ((i : ℕ) → i < 16 → P (64 * i + place)) → ((n : ℕ) → n < 1024 → P n → n % 64 ≡ place) → IsLaneSpan P g least greatest
span_of_place P g place lanes least greatest near lane low high passes only =
    let here : (n : ℕ) → n < 1024 → P n → get_or lanes (n / 64) 0 ≡ g n = λ n h p. let e : 64 * (n / 64) + place ≡ n = omega (arith, only n h p) in lane (n / 64) (omega (arith, h)) ∙ ap g e in
    record {
      low_bound = λ n h p. omega (arith, low (n / 64) (omega (arith, h)), here n h p);
      high_bound = λ n h p. omega (arith, high (n / 64) (omega (arith, h)), here n h p);
      low_reached = λ i h. (64 * i + place, omega (arith, h, near), passes i h, low i h ∙ lane i h);
      high_reached = λ i h. (64 * i + place, omega (arith, h, near), passes i h, high i h ∙ lane i h);
    }

-- one more place
pub span_with_place : (P Q : ℕ → Type 0) (g : ℕ → ℕ) (place : ℕ) (lanes least greatest lower higher : List ℕ) → place < 64 → IsLaneSpan P g least greatest → ((i : ℕ) → i < 16 → get_or lanes i 0 ≡ g (64 * i + place)) → ((i : ℕ) → i < 16 → get_or lower i 0 ≡ min (get_or least i 0) (get_or lanes i 0)) → ((i : ℕ) → i < 16 → get_or higher i 0 ≡ max (get_or greatest i 0) (get_or lanes i 0)) → ((n : ℕ) → n < 1024 → P n → Q n) → ((i : ℕ) → i < 16 → Q (64 * i + place)) → ((n : ℕ) → n < 1024 → Q n → P n ⊎ (n % 64 ≡ place)) → IsLaneSpan Q g lower higher
span_with_place P Q g place lanes least greatest lower higher near span lane low high old new only = record {
  low_bound = λ n h q. below n h (only n h q);
  high_bound = λ n h q. above n h (only n h q);
  low_reached = λ i h. low_one i h (cases_lt (get_or least i 0) (get_or lanes i 0));
  high_reached = λ i h. high_one i h (cases_lt (get_or greatest i 0) (get_or lanes i 0));
}
  where
    here : (n : ℕ) → n < 1024 → n % 64 ≡ place → get_or lanes (n / 64) 0 ≡ g n
    here n h e =
        let same : 64 * (n / 64) + place ≡ n = omega (arith, e) in
        lane (n / 64) (omega (arith, h)) ∙ ap g same

    below : (n : ℕ) → n < 1024 → P n ⊎ (n % 64 ≡ place) → get_or lower (n / 64) 0 ≤ g n
    below n h (inl p) = omega (arith, low (n / 64) (omega (arith, h)), span.low_bound n h p)
    below n h (inr e) = omega (arith, low (n / 64) (omega (arith, h)), here n h e)

    above : (n : ℕ) → n < 1024 → P n ⊎ (n % 64 ≡ place) → g n ≤ get_or higher (n / 64) 0
    above n h (inl p) = omega (arith, high (n / 64) (omega (arith, h)), span.high_bound n h p)
    above n h (inr e) = omega (arith, high (n / 64) (omega (arith, h)), here n h e)

    low_one : (i : ℕ) → i < 16 → (get_or least i 0 < get_or lanes i 0) ⊎ (get_or lanes i 0 ≤ get_or least i 0) → (n : ℕ) × (n < 1024) × Q n × (get_or lower i 0 ≡ g n)
    low_one i h (inl less) =
        let (n, within, p, e) = span.low_reached i h in
        (n, within, old n within p, omega (arith, low i h, less, e))
    low_one i h (inr more) = (64 * i + place, omega (arith, h, near), new i h, omega (arith, low i h, more, lane i h))

    high_one : (i : ℕ) → i < 16 → (get_or greatest i 0 < get_or lanes i 0) ⊎ (get_or lanes i 0 ≤ get_or greatest i 0) → (n : ℕ) × (n < 1024) × Q n × (get_or higher i 0 ≡ g n)
    high_one i h (inl less) = (64 * i + place, omega (arith, h, near), new i h, omega (arith, high i h, less, lane i h))
    high_one i h (inr more) =
        let (n, within, p, e) = span.high_reached i h in
        (n, within, old n within p, omega (arith, high i h, more, e))

-- the same rows by another test
pub span_of_same : (P Q : ℕ → Type 0) (g : ℕ → ℕ) (least greatest : List ℕ) → ((n : ℕ) → n < 1024 → P n → Q n) → ((n : ℕ) → n < 1024 → Q n → P n) → IsLaneSpan P g least greatest → IsLaneSpan Q g least greatest
span_of_same P Q g least greatest there back span = record {
  low_bound = λ n h q. span.low_bound n h (back n h q);
  high_bound = λ n h q. span.high_bound n h (back n h q);
  low_reached = λ i h. let (n, within, p, e) = span.low_reached i h in (n, within, there n within p, e);
  high_reached = λ i h. let (n, within, p, e) = span.high_reached i h in (n, within, there n within p, e);
}

-- all lanes together
pub span_of_lanes : (P : ℕ → Type 0) (g : ℕ → ℕ) (least greatest : List ℕ) (low high i j : ℕ) → IsLaneSpan P g least greatest → ((k : ℕ) → k < 16 → low ≤ get_or least k 0) → ((k : ℕ) → k < 16 → get_or greatest k 0 ≤ high) → i < 16 → low ≡ get_or least i 0 → j < 16 → high ≡ get_or greatest j 0 → IsSpan P g low high
span_of_lanes P g least greatest low high i j span below above near lowest far highest =
    let (a, b, c, d) = span.low_reached i near in
    let (e, f, h, k) = span.high_reached j far in
    record {
      low_bound = λ n l p. omega (arith, below (n / 64) (omega (arith, l)), span.low_bound n l p);
      high_bound = λ n l p. omega (arith, above (n / 64) (omega (arith, l)), span.high_bound n l p);
      low_at = a;
      low_within = b;
      low_passes = c;
      low_reached = lowest ∙ d;
      high_at = e;
      high_within = f;
      high_passes = h;
      high_reached = highest ∙ k;
    }

-- the same numbers by another name
pub span_of_equal : (P : ℕ → Type 0) (g f : ℕ → ℕ) (low high : ℕ) → ((n : ℕ) → n < 1024 → g n ≡ f n) → IsSpan P g low high → IsSpan P f low high
span_of_equal P g f low high same span = record {
  low_bound = λ n h p. omega (arith, same n h, span.low_bound n h p);
  high_bound = λ n h p. omega (arith, same n h, span.high_bound n h p);
  low_at = span.low_at;
  low_within = span.low_within;
  low_passes = span.low_passes;
  low_reached = span.low_reached ∙ same span.low_at span.low_within;
  high_at = span.high_at;
  high_within = span.high_within;
  high_passes = span.high_passes;
  high_reached = span.high_reached ∙ same span.high_at span.high_within;
}

pub span_rises : (P : ℕ → Type 0) (g : ℕ → ℕ) (low high : ℕ) → IsSpan P g low high → low ≤ high
span_rises P g low high span = omega (arith, span.low_reached, span.high_bound span.low_at span.low_within span.low_passes)

-- ---- the width of a span
least_width-rises : (x y : ℕ) → x ≤ y → y < 2 ^ 64 → least_width x ≤ least_width y
least_width-rises x y h small =
    least_width-least x (least_width y) (omega (arith, h, small)) (omega (arith, h, least_width-holds y small))

-- the numbers f n of the rows that pass p, of which the rows that pass P are some
pub record AreSome (t : ℕ) (p : ℕ → Bool) (f : ℕ → ℤ) (m : ℕ) (P : ℕ → Type 0) : Type 0 where
  pub width : IsLaneWidth t
  pub passes : p m ≡ true
  pub within : m < 1024
  pub fits : (n : ℕ) → n < 1024 → p n ≡ true → FitsSigned (integer_width t) (f n)
  pub some : (n : ℕ) → n < 1024 → P n → p n ≡ true

range_of_span : (t : ℕ) (p : ℕ → Bool) (f : ℕ → ℤ) (m : ℕ) (P : ℕ → Type 0) (low high : ℕ) → AreSome t p f m P → (span : IsSpan P (λ n. at_top t (f n)) low high) → (f span.low_at ≤ℤ f span.high_at) × ((high - low) / 2 ^ (64 - t) ≡ int_gap (f span.low_at) (f span.high_at))
range_of_span t p f m P low high these span =
    let a = span.low_at in
    let b = span.high_at in
    let fit_a = these.fits a span.low_within (these.some a span.low_within span.low_passes) in
    let fit_b = these.fits b span.high_within (these.some b span.high_within span.high_passes) in
    let tops : at_top t (f a) ≤ at_top t (f b) = omega (arith, span_rises P (λ n. at_top t (f n)) low high span, span.low_reached, span.high_reached) in
    let order = at_top-order t (f a) (f b) these.width fit_a fit_b tops in
    let gap : (high - low) / 2 ^ (64 - t) ≡ (at_top t (f b) - at_top t (f a)) / 2 ^ (64 - t) =
    ap (λ x. (x - low) / 2 ^ (64 - t)) span.high_reached ∙ ap (λ x. (at_top t (f b) - x) / 2 ^ (64 - t)) span.low_reached in
    (order, gap ∙ at_top-gap t (f a) (f b) these.width fit_a fit_b order)

-- some numbers have a width of at most that of all
pub width_of_some : (t : ℕ) (p : ℕ → Bool) (f : ℕ → ℤ) (m : ℕ) (P : ℕ → Type 0) (low high : ℕ) → AreSome t p f m P → IsSpan P (λ n. at_top t (f n)) low high → least_width ((high - low) / 2 ^ (64 - t)) ≤ least_width (int_gap (least_of p f m) (greatest_of p f m))
width_of_some t p f m P low high these span =
    let a = span.low_at in
    let b = span.high_at in
    let range = range_of_span t p f m P low high these span in
    let inside : int_gap (f a) (f b) ≤ int_gap (least_of p f m) (greatest_of p f m) =
    gap_within (least_of p f m) (f a) (f b) (greatest_of p f m)
    ((least_is_low p f m).each_bound a span.low_within (these.some a span.low_within span.low_passes))
    range.0
    ((greatest_is_high p f m).each_bound b span.high_within (these.some b span.high_within span.high_passes)) in
    least_width-rises ((high - low) / 2 ^ (64 - t)) (int_gap (least_of p f m) (greatest_of p f m)) (omega (arith, range.1, inside))
    (below_word t (int_gap (least_of p f m) (greatest_of p f m)) these.width (range_in_lane t p f m these.width these.passes these.within these.fits))

-- all numbers have the width of their range
pub width_of_all : (t : ℕ) (p : ℕ → Bool) (f : ℕ → ℤ) (m : ℕ) (P : ℕ → Type 0) (low high : ℕ) → AreSome t p f m P → ((n : ℕ) → n < 1024 → p n ≡ true → P n) → IsSpan P (λ n. at_top t (f n)) low high → least_width ((high - low) / 2 ^ (64 - t)) ≡ least_width (int_gap (least_of p f m) (greatest_of p f m))
width_of_all t p f m P low high these all span =
    let a = span.low_at in
    let b = span.high_at in
    let pass_a = these.some a span.low_within span.low_passes in
    let pass_b = these.some b span.high_within span.high_passes in
    let bottom = least_is_at p f m these.passes these.within in
    let top_one = greatest_is_at p f m these.passes these.within in
    let c = bottom.place in
    let d = top_one.place in
    let lowest : f a ≤ℤ f c = at_top-order t (f a) (f c) these.width (these.fits a span.low_within pass_a) (these.fits c bottom.within bottom.passes) (omega (arith, span.low_reached, span.low_bound c bottom.within (all c bottom.within bottom.passes))) in
    let highest : f d ≤ℤ f b = at_top-order t (f d) (f b) these.width (these.fits d top_one.within top_one.passes) (these.fits b span.high_within pass_b) (omega (arith, span.high_reached, span.high_bound d top_one.within (all d top_one.within top_one.passes))) in
    let least : f a ≡ least_of p f m = omega (arith, ints, lowest, bottom.is, (least_is_low p f m).each_bound a span.low_within pass_a) in
    let greatest : f b ≡ greatest_of p f m = omega (arith, ints, highest, top_one.is, (greatest_is_high p f m).each_bound b span.high_within pass_b) in
    ap least_width ((range_of_span t p f m P low high these span).1 ∙ ap (λ z. int_gap z (f b)) least ∙ ap (int_gap (least_of p f m)) greatest)
