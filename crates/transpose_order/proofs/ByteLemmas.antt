-- A byte has eight bits, so bytes and the bits that they stand for give each other back.
use Rattle.std.proofs.Common.{◌≡◌, ℕ, zero, suc, ◌+◌, ◌-◌, ◌*◌, ◌/◌, ◌%◌, ◌^◌, ◌<◌, ◌≤◌, ◌⊎◌, inl, inr, List, bit_or, max, length, get_or, sym, ap, ◌∙◌, subst, arith}
use Rattle.std.specs.Int.{bit_at}
use Rattle.std.proofs.lemmas.List.FromFn.{length-map-range_with_len, get_or-map-range_with_len, fill_by_all}
use Rattle.std.proofs.lemmas.Nat.{mod_below, pow_pos, mul-add-lt, div-mul-add, mod-mul-add, pow-add}
use Rattle.std.proofs.Math.Nat.{mod-eq_of_lt, pow-le-pow_right}
use Rattle.std.proofs.lemmas.Nat.Bits.{bit_at-lt, bit_at_or, bit_at_above, bit_at-zero, bit_at_cat_low, bit_at_cat_high, same_from_bits}
use Rattle.std.proofs.lemmas.Bool.{cases_lt}
use Rattle.transpose_order.specs.Mask.{number_of_bits}
use Rattle.transpose_order.specs.MaskWords.{number_of_bits-zero, number_of_bits-suc, number_of_bits-below, number_of_bits_is, bit_at-number_of_bits}
use Rattle.transpose_order.specs.Bytes.{byte_of, bytes_of_bits, bit_of_bytes}
use Rattle.transpose_order.proofs.BitLemmas.{bit_at-shr, bit_at-mod}

-- a number by its bits reads only so many
pub number_of_bits-same : (w : ℕ) (f g : ℕ → ℕ) → ((i : ℕ) → i < w → f i ≡ g i) → number_of_bits w f ≡ number_of_bits w g
number_of_bits-same zero f g h = number_of_bits-zero f ∙ sym (number_of_bits-zero g)
number_of_bits-same (suc w) f g h =
    number_of_bits-suc w f
    ∙ ap (λ x. x * 2 ^ w + number_of_bits w f) (h w (omega arith))
    ∙ ap (λ x. g w * 2 ^ w + x) (number_of_bits-same w f g (λ i l. h i (omega arith)))
    ∙ sym (number_of_bits-suc w g)

pub byte_of-below : (f : ℕ → ℕ) (i : ℕ) → ((b : ℕ) → f b < 2) → byte_of f i < 2 ^ 8
unfolding byte_of
byte_of-below f i bits = number_of_bits-below 8 (λ p. f (8 * i + p)) (λ p _. bits (8 * i + p))

pub bit_at-byte_of : (f : ℕ → ℕ) (i p : ℕ) → ((b : ℕ) → f b < 2) → p < 8 → bit_at (byte_of f i) p ≡ f (8 * i + p)
unfolding byte_of
bit_at-byte_of f i p bits h = bit_at-number_of_bits 8 (λ p. f (8 * i + p)) (λ p _. bits (8 * i + p)) p h

-- a byte is known by its bits
pub byte_of_is : (v : ℕ) (f : ℕ → ℕ) (i : ℕ) → v < 2 ^ 8 → ((p : ℕ) → p < 8 → bit_at v p ≡ f (8 * i + p)) → v ≡ byte_of f i
unfolding byte_of
byte_of_is v f i fits bits = number_of_bits_is 8 v (λ p. f (8 * i + p)) fits bits

pub byte_of-same : (f g : ℕ → ℕ) (i j : ℕ) → ((p : ℕ) → p < 8 → f (8 * i + p) ≡ g (8 * j + p)) → byte_of f i ≡ byte_of g j
unfolding byte_of
byte_of-same f g i j h = number_of_bits-same 8 (λ p. f (8 * i + p)) (λ p. g (8 * j + p)) h

-- a byte of a number
pub byte_of-bit_at : (n i : ℕ) → n / 2 ^ (8 * i) % 2 ^ 8 ≡ byte_of (bit_at n) i
byte_of-bit_at n i =
    byte_of_is (n / 2 ^ (8 * i) % 2 ^ 8) (bit_at n) i (mod_below (n / 2 ^ (8 * i)) (2 ^ 8) (pow_pos 8))
    (λ p h. bit_at-mod (n / 2 ^ (8 * i)) 8 p h ∙ bit_at-shr n (8 * i) p)

-- ---- lists of bytes
pub length-bytes_of_bits : (n : ℕ) (f : ℕ → ℕ) → length (bytes_of_bits n f) ≡ n
unfolding bytes_of_bits
length-bytes_of_bits n f = length-map-range_with_len (λ i. byte_of f i) 0 n

pub get_or-bytes_of_bits : (n : ℕ) (f : ℕ → ℕ) (i : ℕ) → i < n → get_or (bytes_of_bits n f) i 0 ≡ byte_of f i
unfolding bytes_of_bits
get_or-bytes_of_bits n f i h = get_or-map-range_with_len (λ i. byte_of f i) 0 n i i 0 h (omega arith)

pub bytes_of_bits_are : (n : ℕ) (f : ℕ → ℕ) (bytes : List ℕ) → length bytes ≡ n → ((i : ℕ) → i < n → get_or bytes i 0 ≡ byte_of f i) → bytes ≡ bytes_of_bits n f
unfolding bytes_of_bits
bytes_of_bits_are n f bytes long h = fill_by_all (λ i. byte_of f i) bytes n 0 long h

pub bit_of_bytes_at : (bytes : List ℕ) (i p : ℕ) → p < 8 → bit_of_bytes bytes (8 * i + p) ≡ bit_at (get_or bytes i 0) p
unfolding bit_of_bytes
bit_of_bytes_at bytes i p h =
    let byte : (8 * i + p) / 8 ≡ i = omega arith in
    let bit : (8 * i + p) % 8 ≡ p = omega arith in
    ap (λ k. bit_at (get_or bytes k 0) ((8 * i + p) % 8)) byte ∙ ap (bit_at (get_or bytes i 0)) bit

pub bit_of_bytes-below : (bytes : List ℕ) (b : ℕ) → bit_of_bytes bytes b < 2
unfolding bit_of_bytes
bit_of_bytes-below bytes b = bit_at-lt (get_or bytes (b / 8) 0) (b % 8)

-- bits are found again from their bytes
pub bit_of_bytes-bytes_of_bits : (n : ℕ) (f : ℕ → ℕ) (b : ℕ) → ((b : ℕ) → f b < 2) → b < 8 * n → bit_of_bytes (bytes_of_bits n f) b ≡ f b
bit_of_bytes-bytes_of_bits n f b bits h =
    let whole : 8 * (b / 8) + b % 8 ≡ b = omega arith in
    let small : b % 8 < 8 = omega arith in
    ap (bit_of_bytes (bytes_of_bits n f)) (sym whole)
    ∙ bit_of_bytes_at (bytes_of_bits n f) (b / 8) (b % 8) small
    ∙ ap (λ x. bit_at x (b % 8)) (get_or-bytes_of_bits n f (b / 8) (omega arith))
    ∙ bit_at-byte_of f (b / 8) (b % 8) bits small ∙ ap f whole

-- bytes are found again from their bits
pub bytes_of_bits-bit_of_bytes : (n : ℕ) (bytes : List ℕ) → length bytes ≡ n → ((i : ℕ) → i < n → get_or bytes i 0 < 2 ^ 8) → bytes ≡ bytes_of_bits n (bit_of_bytes bytes)
bytes_of_bits-bit_of_bytes n bytes long fits =
    bytes_of_bits_are n (bit_of_bytes bytes) bytes long
    (λ i h. byte_of_is (get_or bytes i 0) (bit_of_bytes bytes) i (fits i h) (λ p l. sym (bit_of_bytes_at bytes i p l)))

pub bytes_of_bits-same : (n : ℕ) (f g : ℕ → ℕ) → ((b : ℕ) → b < 8 * n → f b ≡ g b) → bytes_of_bits n f ≡ bytes_of_bits n g
bytes_of_bits-same n f g h =
    bytes_of_bits_are n g (bytes_of_bits n f) (length-bytes_of_bits n f)
    (λ i l. get_or-bytes_of_bits n f i l ∙ byte_of-same f g i i (λ p m. h (8 * i + p) (omega arith)))

-- ---- a byte above a number
-- where two numbers have no bit in common, their bits joined are their sum
pub or_above : (low high k : ℕ) → low < 2 ^ k → bit_or low (high * 2 ^ k) ≡ high * 2 ^ k + low
or_above low high k fits =
    same_from_bits (bit_or low (high * 2 ^ k)) (high * 2 ^ k + low) (λ i. bit_at_or low (high * 2 ^ k) i ∙ by_side i (cases_lt i k))
  where
    shifted : (i : ℕ) → bit_at (high * 2 ^ k) i ≡ bit_at (high * 2 ^ k + 0) i
    shifted i = ap (λ x. bit_at x i) (omega arith)

    by_side : (i : ℕ) → (i < k) ⊎ (k ≤ i) → max (bit_at low i) (bit_at (high * 2 ^ k) i) ≡ bit_at (high * 2 ^ k + low) i
    by_side i (inl h) =
        let none = shifted i ∙ bit_at_cat_low high k 0 i h ∙ bit_at-zero i in
        let there = bit_at_cat_low high k low i h in
        rw (none, there) (omega arith)
    by_side i (inr h) =
        let none = bit_at_above low k i fits h in
        let new = shifted i ∙ bit_at_cat_high high k 0 i (pow_pos k) h in
        let there = bit_at_cat_high high k low i fits h in
        rw (none, new, there) (omega arith)

pub pow_room : (b i : ℕ) → i < 8 → b < 2 ^ 8 → (b * 2 ^ (8 * i) < 2 ^ 64) × (2 ^ 8 * 2 ^ (8 * i) ≡ 2 ^ (8 * (i + 1)))
pow_room b i near small =
    let whole : 2 ^ 8 * 2 ^ (8 * i) ≡ 2 ^ (8 * (i + 1)) = sym (pow-add 2 8 (8 * i)) ∙ ap (λ n. 2 ^ n) (let e : 8 + 8 * i ≡ 8 * (i + 1) = omega arith in e) in
    let base : 0 < 2 = omega arith in
    let step : 8 * (i + 1) ≤ 64 = omega arith in
    let within : 2 ^ (8 * (i + 1)) ≤ 2 ^ 64 = pow-le-pow_right base step in
    (omega (arith, mul-add-lt b (2 ^ (8 * i)) 0 (2 ^ 8) small (pow_pos (8 * i)), whole, within), whole)

-- the next byte of a number read lowest byte first
pub byte_above : (bytes : List ℕ) (at i number b : ℕ) → i < 8 → b ≡ get_or bytes (at + i) 0 → b < 2 ^ 8 → number ≡ number_of_bits (8 * i) (λ p. bit_of_bytes bytes (8 * at + p)) → bit_or number (b * 2 ^ (8 * i) % 2 ^ 64) ≡ number_of_bits (8 * (i + 1)) (λ p. bit_of_bytes bytes (8 * at + p))
byte_above bytes at i number b near byte small is =
    let k = 8 * i in
    let f : ℕ → ℕ = λ p. bit_of_bytes bytes (8 * at + p) in
    let bits : (p : ℕ) → f p < 2 = (λ p. bit_of_bytes-below bytes (8 * at + p)) in
    let fits : number < 2 ^ k = subst (λ (n : ℕ). n < 2 ^ k) (sym is) (number_of_bits-below k f (λ p _. bits p)) in
    let room = pow_room b i near small in
    let below : b * 2 ^ k + number < 2 ^ (8 * (i + 1)) = omega (arith, mul-add-lt b (2 ^ k) number (2 ^ 8) small fits, room.1) in
    ap (bit_or number) (mod-eq_of_lt room.0) ∙ or_above number b k fits
    ∙ number_of_bits_is (8 * (i + 1)) (b * 2 ^ k + number) f below (λ p h. by_side p h (cases_lt p k) fits)
  where
    by_side : (p : ℕ) → p < 8 * (i + 1) → (p < 8 * i) ⊎ (8 * i ≤ p) → number < 2 ^ (8 * i) → bit_at (b * 2 ^ (8 * i) + number) p ≡ bit_of_bytes bytes (8 * at + p)
    by_side p h (inl low) fits =
        bit_at_cat_low b (8 * i) number p low ∙ ap (λ n. bit_at n p) is
        ∙ bit_at-number_of_bits (8 * i) (λ p. bit_of_bytes bytes (8 * at + p)) (λ p _. bit_of_bytes-below bytes (8 * at + p)) p low
    by_side p h (inr high) fits =
        bit_at_cat_high b (8 * i) number p fits high ∙ ap (λ n. bit_at n (p - 8 * i)) byte
        ∙ sym (bit_of_bytes_at bytes (at + i) (p - 8 * i) (omega arith))
        ∙ ap (bit_of_bytes bytes) (omega arith)

-- byte i of word j of t bits, which is s bytes, is byte s * j + i of the words
pub byte_of_word : (words : List ℕ) (t s j i : ℕ) → 8 * s ≡ t → i < s → byte_of (bit_at (get_or words j 0)) i ≡ byte_of (λ b. bit_at (get_or words (b / t) 0) (b % t)) (s * j + i)
byte_of_word words t s j i wide h =
    byte_of-same (bit_at (get_or words j 0)) (λ b. bit_at (get_or words (b / t) 0) (b % t)) i (s * j + i)
    (λ p l.
    let within : 8 * i + p < t = omega arith in
    let place : 8 * (s * j + i) + p ≡ j * t + (8 * i + p) = omega (arith, ap (λ n. j * n) wide) in
    sym (ap (λ n. bit_at (get_or words n 0) ((8 * (s * j + i) + p) % t)) (ap (λ n. n / t) place ∙ div-mul-add j t (8 * i + p) within)
    ∙ ap (bit_at (get_or words j 0)) (ap (λ n. n % t) place ∙ mod-mul-add j t (8 * i + p) within)))
