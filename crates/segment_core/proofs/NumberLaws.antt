-- The laws of numbers in bytes: a number's bytes give it back, and bytes are those of their number.
use Rattle.std.proofs.Common.{◌≡◌, ℕ, zero, suc, ◌+◌, ◌-◌, ◌*◌, ◌/◌, ◌%◌, ◌^◌, ◌<◌, Bool, true, false, cond, ltb, eqb, List, [], ◌∷◌, length, take, Some, None, ℤ, pos, negsuc, refl, sym, ap, subst, ◌∙◌, arith}
use Rattle.std.specs.List.{list_all}
use Rattle.std.specs.Int.{Width, w8, w16, w32, w64, int_wrap, cast_signed, cast_unsigned, byte_at, bytes_low_first}
use Rattle.std.specs.Int.RustNames.{FitsSigned}
use Rattle.std.proofs.lemmas.Bool.{ltb-true, lt-ltb, eqb-true, eq-eqb, and_parts, and_from}
use Rattle.std.proofs.lemmas.Int.{SFits-int_wrap, of_z-to_z, to_z-of_z}
use Rattle.std.proofs.lemmas.List.{append-nil}
use Rattle.std.proofs.Math.Nat.{div-div-eq-div-mul, mod-eq_of_lt, pow-succ'}
use Rattle.std.proofs.Math.Facts.{Fits-of_z}
use mir.Val.{bits}
use Rattle.byteorder.specs.Endian.{little_from, little_number, little_bytes}
use Rattle.byteorder.specs.Numbers.{little_from-cons, little_number-reads_back, length-bytes_low_first}
use Rattle.transpose_order.specs.Place.{IsLaneWidth}
use Rattle.transpose_order.proofs.WidthLemmas.{at_widths}
use Rattle.bit_interleave.specs.Arithmetic.{integer_width}
use Rattle.bit_interleave.proofs.WrapLemmas.{int_wrap_pos}
use Rattle.segment_core.specs.Format.{Format, IsLawful, AreBytes, is_byte, raw, valid_some, number, signed, is_in_bits}
use Rattle.segment_core.proofs.FormatLaws.{raw_is_lawful, seen_is_lawful}

-- ---- unsigned numbers

-- the bytes of a number above its lowest are those of the number without it
byte_at-above : (i b y : ℕ) → b < 256 → byte_at (suc i) (b + 256 * y) ≡ byte_at i y
byte_at-above zero b y small = omega arith
byte_at-above (suc i) b y small =
    let above : (b + 256 * y) / 256 ≡ y = omega arith in
    ap (λ (d : ℕ). (b + 256 * y) / d % 256) (pow-succ' 256 (suc i)) ∙ ap (λ (q : ℕ). q % 256) (sym (div-div-eq-div-mul (b + 256 * y) 256 (256 ^ suc i)) ∙ ap (λ (q : ℕ). q / 256 ^ suc i) above)

bytes-above : (k i b y : ℕ) → b < 256 → bytes_low_first (suc i) k (b + 256 * y) ≡ bytes_low_first i k y
bytes-above zero i b y small = refl
bytes-above (suc k) i b y small =
    ap (λ (c : ℕ). c ∷ bytes_low_first (suc (suc i)) k (b + 256 * y)) (byte_at-above i b y small) ∙ ap (λ (cs : List ℕ). byte_at i y ∷ cs) (bytes-above k (suc i) b y small)

lowest_byte : (b y : ℕ) → b < 256 → byte_at 0 (b + 256 * y) ≡ b
lowest_byte b y small = omega arith

-- bytes are those of the number that they give
pub bytes_of_number : (bytes : List ℕ) → AreBytes bytes → little_bytes (length bytes) (little_number (length bytes) bytes) ≡ bytes
bytes_of_number [] fit = refl
bytes_of_number (b ∷ bytes) fit =
    let parts = and_parts (ltb b 256) (list_all is_byte bytes) fit in
    let small : b < 256 = ltb-true b 256 parts.0 in
    let n = little_from 0 (length bytes) bytes in
    ap (λ (x : ℕ). little_bytes (suc (length bytes)) (b + 256 * x)) (little_from-cons 0 (length bytes) b bytes)
    ∙ ap (λ (c : ℕ). c ∷ bytes_low_first 1 (length bytes) (b + 256 * n)) (lowest_byte b n small)
    ∙ ap (λ (cs : List ℕ). b ∷ cs) (bytes-above (length bytes) 0 b n small ∙ bytes_of_number bytes parts.1)

-- a byte of a number is a byte
byte_at-below : (i x : ℕ) → byte_at i x < 256
byte_at-below zero x = omega arith
byte_at-below (suc i) x = omega arith

pub bytes_are_bytes : (n i x : ℕ) → AreBytes (bytes_low_first i n x)
bytes_are_bytes zero i x = refl
bytes_are_bytes (suc n) i x =
    and_from (ltb (byte_at i x) 256) (list_all is_byte (bytes_low_first (suc i) n x)) (lt-ltb _ _ (byte_at-below i x)) (bytes_are_bytes n (suc i) x)

-- so many bytes make no number past their own
number-below : (bytes : List ℕ) → AreBytes bytes → little_number (length bytes) bytes < 256 ^ length bytes
number-below [] fit = omega arith
number-below (b ∷ bytes) fit =
    let parts = and_parts (ltb b 256) (list_all is_byte bytes) fit in
    let small : b < 256 = ltb-true b 256 parts.0 in
    let rest = number-below bytes parts.1 in
    rw (little_from-cons 0 (length bytes) b bytes, pow-succ' 256 (length bytes)) (omega arith)

pub chosen_some : {A : Type 0} (b : Bool) (x y : A) → cond b (Some x) None ≡ Some y → (b ≡ true) × (x ≡ y)
chosen_some true x y e = (refl, cc)
chosen_some false x y e = absurd cc

number-back : (n : ℕ) (bytes : List ℕ) → (raw n).valid bytes ≡ true
    → cond (ltb (little_number n bytes) (256 ^ n)) (Some (little_bytes n (little_number n bytes))) None ≡ Some bytes
number-back n bytes valid =
    let v = and_parts (eqb (length bytes) n) (list_all is_byte bytes) valid in
    let long : length bytes ≡ n = eqb-true _ _ v.0 in
    let at_length : cond (ltb (little_number (length bytes) bytes) (256 ^ length bytes)) (Some (little_bytes (length bytes) (little_number (length bytes) bytes))) None ≡ Some bytes =
    rw (lt-ltb _ _ (number-below bytes v.1), bytes_of_number bytes v.1) refl in
    subst (λ (k : ℕ). cond (ltb (little_number k bytes) (256 ^ k)) (Some (little_bytes k (little_number k bytes))) None ≡ Some bytes) long at_length

number-forth : (n : ℕ) (bytes : List ℕ) (x : ℕ) → cond (ltb x (256 ^ n)) (Some (little_bytes n x)) None ≡ Some bytes → little_number n bytes ≡ x
number-forth n bytes x e =
    let c = chosen_some (ltb x (256 ^ n)) (little_bytes n x) bytes e in
    ap (little_number n) (sym c.1 ∙ sym (append-nil (little_bytes n x))) ∙ little_number-reads_back n x [] (ltb-true _ _ c.0)

pub number_is_lawful : (n : ℕ) → IsLawful (number n)
number_is_lawful n = seen_is_lawful (raw n) (little_number n) (λ x. cond (ltb x (256 ^ n)) (Some (little_bytes n x)) None) (raw_is_lawful n) (number-back n) (number-forth n)

pub cond_valid : {A : Type 0} (f : Format A) (b : Bool) (x : A) → valid_some f (cond b (Some x) None) ≡ true → (b ≡ true) × (f.valid x ≡ true)
cond_valid f true x e = (refl, e)
cond_valid f false x e = absurd cc

-- a number of so many bytes is below their limit
pub number_valid : (n x : ℕ) → (number n).valid x ≡ true → x < 256 ^ n
number_valid n x valid = ltb-true _ _ (cond_valid (raw n) (ltb x (256 ^ n)) (little_bytes n x) valid).0

pub number_is_valid : (n x : ℕ) → x < 256 ^ n → (number n).valid x ≡ true
number_is_valid n x below =
    rw (lt-ltb x (256 ^ n) below) (and_from (eqb (length (little_bytes n x)) n) (list_all is_byte (little_bytes n x)) (eq-eqb _ _ (length-bytes_low_first 0 n x)) (bytes_are_bytes n 0 x))

-- a number's bytes
pub number_spelled : (n x : ℕ) → x < 256 ^ n → (number n).spell x ≡ little_bytes n x
number_spelled n x below = rw (lt-ltb x (256 ^ n) below) refl

-- ---- signed numbers

pos_fits : (t n : ℕ) → IsLaneWidth t → n < 2 ^ (t - 1) → FitsSigned (integer_width t) (pos n)
pos_fits t n width below =
    at_widths (λ t. n < 2 ^ (t - 1) → FitsSigned (integer_width t) (pos n)) (λ h. record { sfits = h }) (λ h. record { sfits = h }) (λ h. record { sfits = h }) (λ h. record { sfits = h }) t width below

negsuc_fits : (t n : ℕ) → IsLaneWidth t → n < 2 ^ (t - 1) → FitsSigned (integer_width t) (negsuc n)
negsuc_fits t n width below =
    at_widths (λ t. n < 2 ^ (t - 1) → FitsSigned (integer_width t) (negsuc n)) (λ h. record { sfits = h }) (λ h. record { sfits = h }) (λ h. record { sfits = h }) (λ h. record { sfits = h }) t width below

pos_below : (t n : ℕ) → IsLaneWidth t → FitsSigned (integer_width t) (pos n) → n < 2 ^ (t - 1)
pos_below t n width fits =
    at_widths (λ t. FitsSigned (integer_width t) (pos n) → n < 2 ^ (t - 1)) (λ h. h.sfits) (λ h. h.sfits) (λ h. h.sfits) (λ h. h.sfits) t width fits

negsuc_below : (t n : ℕ) → IsLaneWidth t → FitsSigned (integer_width t) (negsuc n) → n < 2 ^ (t - 1)
negsuc_below t n width fits =
    at_widths (λ t. FitsSigned (integer_width t) (negsuc n) → n < 2 ^ (t - 1)) (λ h. h.sfits) (λ h. h.sfits) (λ h. h.sfits) (λ h. h.sfits) t width fits

pub in_bits_fits : (t : ℕ) (z : ℤ) → IsLaneWidth t → is_in_bits t z ≡ true → FitsSigned (integer_width t) z
in_bits_fits t (pos n) width e = pos_fits t n width (ltb-true _ _ e)
in_bits_fits t (negsuc n) width e = negsuc_fits t n width (ltb-true _ _ e)

pub fits_in_bits : (t : ℕ) (z : ℤ) → IsLaneWidth t → FitsSigned (integer_width t) z → is_in_bits t z ≡ true
fits_in_bits t (pos n) width fits = lt-ltb _ _ (pos_below t n width fits)
fits_in_bits t (negsuc n) width fits = lt-ltb _ _ (negsuc_below t n width fits)

bits_back : (w : Width) (n : ℕ) → n < 2 ^ bits w → cast_unsigned w (int_wrap w (pos n)) ≡ n
bits_back w n below =
    ap (cast_unsigned w) (int_wrap_pos w n) ∙ ap (λ (k : ℕ). cast_unsigned w (cast_signed w k)) (mod-eq_of_lt below) ∙ of_z-to_z w n below

signed-back : (t n : ℕ) → IsLaneWidth t → n < 256 ^ (t / 8) → cast_unsigned (integer_width t) (int_wrap (integer_width t) (pos n)) ≡ n
signed-back t n width below =
    at_widths (λ t. n < 256 ^ (t / 8) → cast_unsigned (integer_width t) (int_wrap (integer_width t) (pos n)) ≡ n)
    (λ h. bits_back w8 n h) (λ h. bits_back w16 n h) (λ h. bits_back w32 n h) (λ h. bits_back w64 n h) t width below

unsigned-below : (w : Width) (z : ℤ) → FitsSigned w z → cast_unsigned w z < 2 ^ bits w
unsigned-below w z fits = (Fits-of_z fits).fits

signed-forth : (w : Width) (z : ℤ) → FitsSigned w z → int_wrap w (pos (cast_unsigned w z)) ≡ z
signed-forth w z fits =
    int_wrap_pos w (cast_unsigned w z) ∙ ap (cast_signed w) (mod-eq_of_lt (unsigned-below w z fits)) ∙ to_z-of_z w z fits

-- a signed number's bits fit its bytes
pub bits-below : (t : ℕ) (z : ℤ) → IsLaneWidth t → FitsSigned (integer_width t) z → cast_unsigned (integer_width t) z < 256 ^ (t / 8)
bits-below t z width fits =
    at_widths (λ t. FitsSigned (integer_width t) z → cast_unsigned (integer_width t) z < 256 ^ (t / 8))
    (λ h. unsigned-below w8 z h) (λ h. unsigned-below w16 z h) (λ h. unsigned-below w32 z h) (λ h. unsigned-below w64 z h) t width fits

pub signed_is_lawful : (t : ℕ) → IsLaneWidth t → IsLawful (signed t)
signed_is_lawful t width =
    seen_is_lawful (number (t / 8)) (λ n. int_wrap (integer_width t) (pos n)) (λ z. cond (is_in_bits t z) (Some (cast_unsigned (integer_width t) z)) None) (number_is_lawful (t / 8))
    (λ n valid.
    let below = number_valid (t / 8) n valid in
    let fits : is_in_bits t (int_wrap (integer_width t) (pos n)) ≡ true = fits_in_bits t (int_wrap (integer_width t) (pos n)) width (SFits-int_wrap (integer_width t) (pos n)) in
    rw (fits, signed-back t n width below) refl)
    (λ n z e.
    let c = chosen_some (is_in_bits t z) (cast_unsigned (integer_width t) z) n e in
    ap (λ (k : ℕ). int_wrap (integer_width t) (pos k)) (sym c.1) ∙ signed-forth (integer_width t) z (in_bits_fits t z width c.0))

pub signed_is_valid : (t : ℕ) (z : ℤ) → IsLaneWidth t → FitsSigned (integer_width t) z → (signed t).valid z ≡ true
signed_is_valid t z width fits =
    rw (fits_in_bits t z width fits) (number_is_valid (t / 8) (cast_unsigned (integer_width t) z) (bits-below t z width fits))

pub signed_spelled : (t : ℕ) (z : ℤ) → IsLaneWidth t → FitsSigned (integer_width t) z → (signed t).spell z ≡ little_bytes (t / 8) (cast_unsigned (integer_width t) z)
signed_spelled t z width fits =
    rw (fits_in_bits t z width fits) (number_spelled (t / 8) (cast_unsigned (integer_width t) z) (bits-below t z width fits))

-- ---- the low bytes of a number of 64 bits

low_negative : (t n : ℕ) → IsLaneWidth t → n < 2 ^ (t - 1) → take (t / 8) (bytes_low_first 0 8 (2 ^ 64 - suc n)) ≡ little_bytes (t / 8) (cast_unsigned (integer_width t) (negsuc n))
low_negative t n width below =
    at_widths (λ t. n < 2 ^ (t - 1) → take (t / 8) (bytes_low_first 0 8 (2 ^ 64 - suc n)) ≡ little_bytes (t / 8) (cast_unsigned (integer_width t) (negsuc n)))
    (λ h.
    let a : (2 ^ 64 - suc n) % 256 ≡ (2 ^ 8 - suc n) % 256 = omega arith in
    λ i. a i ∷ [])
    (λ h.
    let a : (2 ^ 64 - suc n) % 256 ≡ (2 ^ 16 - suc n) % 256 = omega arith in
    let b : (2 ^ 64 - suc n) / 256 % 256 ≡ (2 ^ 16 - suc n) / 256 % 256 = omega arith in
    λ i. a i ∷ b i ∷ [])
    (λ h.
    let a : (2 ^ 64 - suc n) % 256 ≡ (2 ^ 32 - suc n) % 256 = omega arith in
    let b : (2 ^ 64 - suc n) / 256 % 256 ≡ (2 ^ 32 - suc n) / 256 % 256 = omega arith in
    let c : (2 ^ 64 - suc n) / 65536 % 256 ≡ (2 ^ 32 - suc n) / 65536 % 256 = omega arith in
    let d : (2 ^ 64 - suc n) / 16777216 % 256 ≡ (2 ^ 32 - suc n) / 16777216 % 256 = omega arith in
    λ i. a i ∷ b i ∷ c i ∷ d i ∷ [])
    (λ h. refl)
    t width below

low_positive : (t n : ℕ) → IsLaneWidth t → take (t / 8) (bytes_low_first 0 8 n) ≡ little_bytes (t / 8) n
low_positive t n width = at_widths (λ t. take (t / 8) (bytes_low_first 0 8 n) ≡ little_bytes (t / 8) n) refl refl refl refl t width

pub low_bytes : (t : ℕ) (z : ℤ) → IsLaneWidth t → FitsSigned (integer_width t) z → take (t / 8) (bytes_low_first 0 8 (cast_unsigned w64 z)) ≡ (signed t).spell z
low_bytes t (pos n) width fits = low_positive t n width ∙ sym (signed_spelled t (pos n) width fits)
low_bytes t (negsuc n) width fits = low_negative t n width (negsuc_below t n width fits) ∙ sym (signed_spelled t (negsuc n) width fits)
