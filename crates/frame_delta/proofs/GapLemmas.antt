-- The gap between two numbers is what the one is above the other, and a sum that does not fall below its first number has not wrapped.
use Rattle.std.proofs.Common.{◌≡◌, ℕ, ◌^◌, ◌<◌, ℤ, pos, negsuc, ◌+ℤ◌, ◌≤ℤ◌, refl, arith}
use Rattle.std.specs.Int.{w8, w16, w32, w64, int_wrap, int_gap}
use Rattle.std.specs.Int.RustNames.{FitsSigned}
use Rattle.std.proofs.lemmas.Int.{ints, int_wrap_fits}
use Rattle.transpose_order.specs.Place.{IsLaneWidth}
use Rattle.transpose_order.proofs.WidthLemmas.{at_widths}
use Rattle.bit_interleave.specs.Arithmetic.{integer_width}
use Rattle.bit_interleave.proofs.WrapLemmas.{int_wrap_pos}
use Rattle.bit_interleave.proofs.GapLemmas.{gap_back}

-- ---- gaps
pub gap_of_sum : (r v : ℤ) (g : ℕ) → v ≡ r +ℤ pos g → int_gap r v ≡ g
gap_of_sum (pos a) (pos b) g e = omega (arith, ints)
gap_of_sum (pos a) (negsuc b) g e = omega (arith, ints)
gap_of_sum (negsuc a) (pos b) g e = omega (arith, ints)
gap_of_sum (negsuc a) (negsuc b) g e = omega (arith, ints)

pub gap_of_self : (r : ℤ) → int_gap r r ≡ 0
gap_of_self r = gap_of_sum r r 0 (omega (arith, ints))

-- the gap between two numbers of t bits has t bits
pub gap_fits : (t : ℕ) (r v : ℤ) → IsLaneWidth t → FitsSigned (integer_width t) r → FitsSigned (integer_width t) v → r ≤ℤ v → int_gap r v < 2 ^ t
gap_fits t r v width =
    at_widths (λ t. FitsSigned (integer_width t) r → FitsSigned (integer_width t) v → r ≤ℤ v → int_gap r v < 2 ^ t)
    (λ f k h. grind (arith, ints, gap_back r v h)) (λ f k h. grind (arith, ints, gap_back r v h)) (λ f k h. grind (arith, ints, gap_back r v h)) (λ f k h. grind (arith, ints, gap_back r v h)) t width

-- ---- sums that do not wrap
stays : (t r' g : ℕ) (r z : ℤ) → IsLaneWidth t → FitsSigned (integer_width t) r → g < 2 ^ t → r +ℤ pos g ≡ z → r ≤ℤ int_wrap (integer_width t) z → int_wrap (integer_width t) z ≡ z
stays t r' g r (pos m) width =
    at_widths (λ t. FitsSigned (integer_width t) r → g < 2 ^ t → r +ℤ pos g ≡ pos m → r ≤ℤ int_wrap (integer_width t) (pos m) → int_wrap (integer_width t) (pos m) ≡ pos m)
    (λ f k e h. let low = rw (int_wrap_pos w8 m) at h in rw (int_wrap_pos w8 m) (grind (arith, ints)))
    (λ f k e h. let low = rw (int_wrap_pos w16 m) at h in rw (int_wrap_pos w16 m) (grind (arith, ints)))
    (λ f k e h. let low = rw (int_wrap_pos w32 m) at h in rw (int_wrap_pos w32 m) (grind (arith, ints)))
    (λ f k e h. let low = rw (int_wrap_pos w64 m) at h in rw (int_wrap_pos w64 m) (grind (arith, ints)))
    t width
stays t r' g r (negsuc m) width =
    at_widths (λ t. FitsSigned (integer_width t) r → g < 2 ^ t → r +ℤ pos g ≡ negsuc m → r ≤ℤ int_wrap (integer_width t) (negsuc m) → int_wrap (integer_width t) (negsuc m) ≡ negsuc m)
    (λ f k e h. int_wrap_fits w8 (negsuc m) (record { sfits = grind (arith, ints) }))
    (λ f k e h. int_wrap_fits w16 (negsuc m) (record { sfits = grind (arith, ints) }))
    (λ f k e h. int_wrap_fits w32 (negsuc m) (record { sfits = grind (arith, ints) }))
    (λ f k e h. int_wrap_fits w64 (negsuc m) (record { sfits = grind (arith, ints) }))
    t width

-- a sum that is not below its first number has not wrapped
pub sum_stays : (t g : ℕ) (r : ℤ) → IsLaneWidth t → FitsSigned (integer_width t) r → g < 2 ^ t → r ≤ℤ int_wrap (integer_width t) (r +ℤ pos g) → int_wrap (integer_width t) (r +ℤ pos g) ≡ r +ℤ pos g
sum_stays t g r width fits small h = stays t 0 g r (r +ℤ pos g) width fits small refl h

-- between two numbers of t bits there are numbers of t bits alone
pub between_fits : (t : ℕ) (r v u : ℤ) → IsLaneWidth t → FitsSigned (integer_width t) r → FitsSigned (integer_width t) u → r ≤ℤ v → v ≤ℤ u → FitsSigned (integer_width t) v
between_fits t r v u width =
    at_widths (λ t. FitsSigned (integer_width t) r → FitsSigned (integer_width t) u → r ≤ℤ v → v ≤ℤ u → FitsSigned (integer_width t) v)
    (λ f k h l. record { sfits = grind (arith, ints) }) (λ f k h l. record { sfits = grind (arith, ints) }) (λ f k h l. record { sfits = grind (arith, ints) }) (λ f k h l. record { sfits = grind (arith, ints) }) t width
