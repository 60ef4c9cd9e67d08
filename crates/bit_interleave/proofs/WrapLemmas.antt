-- A signed number of t bits is the low t bits of its 64, with those read as negative moved down by 2 ^ t.
use Rattle.std.proofs.Common.{◌≡◌, ℕ, suc, ◌+◌, ◌-◌, ◌*◌, ◌/◌, ◌%◌, ◌^◌, ◌<◌, ℤ, pos, negsuc, bit_and, refl, sym, ap, ◌∙◌, arith}
use Rattle.std.specs.Int.{Width, w8, w16, w32, w64, int_wrap, cast_signed, cast_unsigned}
use Rattle.std.specs.Int.RustNames.{FitsSigned}
use Rattle.std.proofs.lemmas.Int.{ints, SFits-int_wrap, of_z-to_z}
use Rattle.std.proofs.lemmas.Nat.{and_mask}
use mir.Val.{bits}
use Rattle.transpose_order.specs.Place.{IsLaneWidth}
use Rattle.transpose_order.proofs.WidthLemmas.{at_widths}
use Rattle.bit_interleave.specs.Arithmetic.{integer_width}

pub int_wrap_pos : (w : Width) (n : ℕ) → int_wrap w (pos n) ≡ cast_signed w (n % 2 ^ bits w)
unfolding int_wrap
int_wrap_pos w n = refl

pub int_wrap_negsuc : (w : Width) (n : ℕ) → int_wrap w (negsuc n) ≡ cast_signed w (2 ^ bits w - 1 - n % 2 ^ bits w)
unfolding int_wrap
int_wrap_negsuc w n = refl

-- the bits of `wrap`: add half, keep the low t bits, take half away
pub wrapped : (n t : ℕ) → IsLaneWidth t → n < 2 ^ 64 → cast_signed w64 ((bit_and ((n + 1 * 2 ^ (t - 1) % 2 ^ 64) % 2 ^ 64) ((2 ^ 64 - 1) / 2 ^ (64 - t)) + (2 ^ 64 - 1 * 2 ^ (t - 1) % 2 ^ 64)) % 2 ^ 64) ≡ int_wrap (integer_width t) (pos n)
wrapped n t width fits =
    at_widths (λ t. cast_signed w64 ((bit_and ((n + 1 * 2 ^ (t - 1) % 2 ^ 64) % 2 ^ 64) ((2 ^ 64 - 1) / 2 ^ (64 - t)) + (2 ^ 64 - 1 * 2 ^ (t - 1) % 2 ^ 64)) % 2 ^ 64) ≡ int_wrap (integer_width t) (pos n))
    (rw (int_wrap_pos w8 n, and_mask ((n + 128) % 2 ^ 64) 8) (grind (arith, ints)))
    (rw (int_wrap_pos w16 n, and_mask ((n + 2 ^ 15) % 2 ^ 64) 16) (grind (arith, ints)))
    (rw (int_wrap_pos w32 n, and_mask ((n + 2 ^ 31) % 2 ^ 64) 32) (grind (arith, ints)))
    (rw (int_wrap_pos w64 n, and_mask ((n + 2 ^ 63) % 2 ^ 64) 64) (grind (arith, ints)))
    t width

-- what wraps at 64 bits first wraps alike
pub int_wrap-mod : (t n : ℕ) → IsLaneWidth t → int_wrap (integer_width t) (pos (n % 2 ^ 64)) ≡ int_wrap (integer_width t) (pos n)
int_wrap-mod t n width =
    at_widths (λ t. int_wrap (integer_width t) (pos (n % 2 ^ 64)) ≡ int_wrap (integer_width t) (pos n))
    (rw (int_wrap_pos w8 (n % 2 ^ 64), int_wrap_pos w8 n) (ap (cast_signed w8) (omega arith)))
    (rw (int_wrap_pos w16 (n % 2 ^ 64), int_wrap_pos w16 n) (ap (cast_signed w16) (omega arith)))
    (rw (int_wrap_pos w32 (n % 2 ^ 64), int_wrap_pos w32 n) (ap (cast_signed w32) (omega arith)))
    (rw (int_wrap_pos w64 (n % 2 ^ 64), int_wrap_pos w64 n) (ap (cast_signed w64) (omega arith)))
    t width

negsuc_bits : (t n : ℕ) → IsLaneWidth t → n < 2 ^ 63 → int_wrap (integer_width t) (pos (2 ^ 64 - suc n)) ≡ int_wrap (integer_width t) (negsuc n)
negsuc_bits t n width small =
    at_widths (λ t. int_wrap (integer_width t) (pos (2 ^ 64 - suc n)) ≡ int_wrap (integer_width t) (negsuc n))
    (rw (int_wrap_pos w8 (2 ^ 64 - suc n), int_wrap_negsuc w8 n) (ap (cast_signed w8) (omega arith)))
    (rw (int_wrap_pos w16 (2 ^ 64 - suc n), int_wrap_negsuc w16 n) (ap (cast_signed w16) (omega arith)))
    (rw (int_wrap_pos w32 (2 ^ 64 - suc n), int_wrap_negsuc w32 n) (ap (cast_signed w32) (omega arith)))
    (rw (int_wrap_pos w64 (2 ^ 64 - suc n), int_wrap_negsuc w64 n) (ap (cast_signed w64) (omega arith)))
    t width

-- a number of 64 bits wraps as its bits do
pub int_wrap-bits : (t : ℕ) (z : ℤ) → IsLaneWidth t → FitsSigned w64 z → int_wrap (integer_width t) (pos (cast_unsigned w64 z)) ≡ int_wrap (integer_width t) z
int_wrap-bits t (pos n) width fits = refl
int_wrap-bits t (negsuc n) width fits = negsuc_bits t n width (omega (arith, fits.sfits))

low_complement : (t n : ℕ) → IsLaneWidth t → int_wrap (integer_width t) (pos (2 ^ 64 - 1 - n % 2 ^ 64)) ≡ int_wrap (integer_width t) (negsuc n)
low_complement t n width =
    at_widths (λ t. int_wrap (integer_width t) (pos (2 ^ 64 - 1 - n % 2 ^ 64)) ≡ int_wrap (integer_width t) (negsuc n))
    (rw (int_wrap_pos w8 (2 ^ 64 - 1 - n % 2 ^ 64), int_wrap_negsuc w8 n) (ap (cast_signed w8) (omega arith)))
    (rw (int_wrap_pos w16 (2 ^ 64 - 1 - n % 2 ^ 64), int_wrap_negsuc w16 n) (ap (cast_signed w16) (omega arith)))
    (rw (int_wrap_pos w32 (2 ^ 64 - 1 - n % 2 ^ 64), int_wrap_negsuc w32 n) (ap (cast_signed w32) (omega arith)))
    (rw (int_wrap_pos w64 (2 ^ 64 - 1 - n % 2 ^ 64), int_wrap_negsuc w64 n) (ap (cast_signed w64) (omega arith)))
    t width

pub int_wrap-int_wrap : (t : ℕ) (z : ℤ) → IsLaneWidth t → int_wrap (integer_width t) (int_wrap w64 z) ≡ int_wrap (integer_width t) z
int_wrap-int_wrap t (pos n) width =
    sym (int_wrap-bits t (int_wrap w64 (pos n)) width (SFits-int_wrap w64 (pos n)))
    ∙ rw (int_wrap_pos w64 n, of_z-to_z w64 (n % 2 ^ 64) (omega arith)) (int_wrap-mod t n width)
int_wrap-int_wrap t (negsuc n) width =
    sym (int_wrap-bits t (int_wrap w64 (negsuc n)) width (SFits-int_wrap w64 (negsuc n)))
    ∙ rw (int_wrap_negsuc w64 n, of_z-to_z w64 (2 ^ 64 - 1 - n % 2 ^ 64) (omega arith)) (low_complement t n width)

-- a number in the range of t bits is in that of 64
pub fits_wide : (t : ℕ) (z : ℤ) → IsLaneWidth t → FitsSigned (integer_width t) z → FitsSigned w64 z
fits_wide t z width =
    at_widths (λ t. FitsSigned (integer_width t) z → FitsSigned w64 z)
    (λ f. record { sfits = grind (arith, ints) }) (λ f. record { sfits = grind (arith, ints) }) (λ f. record { sfits = grind (arith, ints) }) (λ f. f) t width

pub int_wrap-wide : (t : ℕ) (z : ℤ) → IsLaneWidth t → FitsSigned w64 (int_wrap (integer_width t) z)
int_wrap-wide t z width =
    fits_wide t (int_wrap (integer_width t) z) width (SFits-int_wrap (integer_width t) z)
