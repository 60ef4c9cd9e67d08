-- The values of a lane stand one after another in a stream of bits, of which a word is a piece.
use Rattle.std.proofs.Common.{◌≡◌, ℕ, ◌+◌, ◌-◌, ◌*◌, ◌/◌, ◌%◌, ◌^◌, ◌<◌, ◌≤◌, ◌⊎◌, inl, inr, List, map, length, get_or, max, bit_and, bit_or, refl, sym, ap, ◌∙◌, subst, arith}
use Rattle.std.specs.Int.{bit_at}
use Rattle.std.specs.List.{All}
use Rattle.std.proofs.lemmas.List.{get_or-map}
use Rattle.std.proofs.lemmas.List.Elements.{All-get_or}
use Rattle.std.proofs.lemmas.Nat.{div-mul-add, mod-mul-add, div-add-mod', mod_below, pow_pos, mul-le, row_fits, div_below, le-div}
use Rattle.std.proofs.lemmas.Nat.Bits.{bit_at_or, bit_at_above}
use Rattle.std.proofs.lemmas.Bool.{cases_lt}
use Rattle.transpose_order.specs.Place.{row_at, IsLaneWidth}
use Rattle.transpose_order.proofs.PlaceLemmas.{lane_of-row_at}
use Rattle.transpose_order.specs.Mask.{number_of_bits}
use Rattle.transpose_order.specs.MaskWords.{number_of_bits_is}
use Rattle.transpose_order.proofs.BitLemmas.{bit_at-shr, bit_at-mod}
use Rattle.bit_interleave.specs.Packing.{value_bit}
use Rattle.bit_interleave.proofs.BitLemmas.{bit_at-shl_low, bit_at-shl_high, low_ones}

pub value_bit_at : (t w : ℕ) (values : List ℕ) (lane b s r : ℕ) → r < w → b ≡ s * w + r → value_bit t w values lane b ≡ bit_at (get_or values (row_at t lane s) 0) r
unfolding value_bit
value_bit_at t w values lane b s r h e =
    ap (λ q. bit_at (get_or values (row_at t lane q) 0) (b % w)) (ap (λ n. n / w) e ∙ div-mul-add s w r h)
    ∙ ap (bit_at (get_or values (row_at t lane s) 0)) (ap (λ n. n % w) e ∙ mod-mul-add s w r h)

-- ---- the first value of a word
pub first_low : (t w : ℕ) (values : List ℕ) (lane start v c : ℕ) → v ≡ get_or values (row_at t lane (start / w)) 0 → c < (start / w + 1) * w - start → bit_at (v / 2 ^ (start % w)) c ≡ value_bit t w values lane (start + c)
first_low t w values lane start v c e h =
    bit_at-shr v (start % w) c ∙ ap (λ x. bit_at x (start % w + c)) e
    ∙ sym (value_bit_at t w values lane (start + c) (start / w) (start % w + c) (omega (arith, div-add-mod' start w)) (omega (arith, div-add-mod' start w)))

pub first_high : (w start v c : ℕ) → v < 2 ^ w → (start / w + 1) * w - start ≤ c → bit_at (v / 2 ^ (start % w)) c ≡ 0
first_high w start v c fit h =
    bit_at-shr v (start % w) c ∙ bit_at_above v w (start % w + c) fit (omega (arith, div-add-mod' start w))

-- ---- each further value
pub next_low : (t w : ℕ) (values : List ℕ) (lane start bits s v c : ℕ) → v ≡ get_or values (row_at t lane s) 0 → start ≤ s * w → ((k : ℕ) → k < s * w - start → k < 64 → bit_at bits k ≡ value_bit t w values lane (start + k)) → ((k : ℕ) → s * w - start ≤ k → bit_at bits k ≡ 0) → c < (s + 1) * w - start → c < 64 → bit_at (bit_or bits (v * 2 ^ (s * w - start) % 2 ^ 64)) c ≡ value_bit t w values lane (start + c)
next_low t w values lane start bits s v c e begun low high h within =
    bit_at_or bits (v * 2 ^ (s * w - start) % 2 ^ 64) c ∙ by_side (cases_lt c (s * w - start))
  where
    by_side : (c < s * w - start) ⊎ (s * w - start ≤ c) → max (bit_at bits c) (bit_at (v * 2 ^ (s * w - start) % 2 ^ 64) c) ≡ value_bit t w values lane (start + c)
    by_side (inl before) =
        let old = low c before within in
        let new = bit_at-shl_low v (s * w - start) c before within in
        rw (old, new) (omega arith)
    by_side (inr after) =
        let old = high c after in
        let new = bit_at-shl_high v (s * w - start) c after within ∙ ap (λ x. bit_at x (c - (s * w - start))) e in
        let there = value_bit_at t w values lane (start + c) s (c - (s * w - start)) (omega arith) (omega arith) in
        rw (old, new, there) (omega arith)

pub next_high : (w start bits s v c : ℕ) → v < 2 ^ w → start ≤ s * w → ((k : ℕ) → s * w - start ≤ k → bit_at bits k ≡ 0) → (s + 1) * w - start ≤ c → bit_at (bit_or bits (v * 2 ^ (s * w - start) % 2 ^ 64)) c ≡ 0
next_high w start bits s v c fit begun high h =
    let old = high c (omega arith) in
    bit_at_or bits (v * 2 ^ (s * w - start) % 2 ^ 64) c ∙ rw old (rw (by_side (cases_lt c 64)) refl)
  where
    by_side : (c < 64) ⊎ (64 ≤ c) → bit_at (v * 2 ^ (s * w - start) % 2 ^ 64) c ≡ 0
    by_side (inl within) =
        bit_at-shl_high v (s * w - start) c (omega arith) within ∙ bit_at_above v w (c - (s * w - start)) fit (omega arith)
    by_side (inr past) =
        bit_at_above (v * 2 ^ (s * w - start) % 2 ^ 64) 64 c (mod_below (v * 2 ^ (s * w - start)) (2 ^ 64) (omega arith)) past

-- ---- the word as a whole
pub word_of_stream : (t w : ℕ) (values : List ℕ) (lane start bits h : ℕ) → t ≤ 64 → t ≤ h → ((k : ℕ) → k < h → k < 64 → bit_at bits k ≡ value_bit t w values lane (start + k)) → bit_and bits ((2 ^ 64 - 1) / 2 ^ (64 - t)) ≡ number_of_bits t (λ b. value_bit t w values lane (start + b))
word_of_stream t w values lane start bits h narrow all low =
    low_ones bits t narrow
    ∙ number_of_bits_is t (bits % 2 ^ t) (λ b. value_bit t w values lane (start + b)) (mod_below bits (2 ^ t) (pow_pos t))
    (λ b l. bit_at-mod bits t b l ∙ low b (omega arith) (omega arith))

-- a value read from a list of words, as a number
pub value_read : {X : Type 0} → (number : X → ℕ) (values : List X) (i : ℕ) (d : X) (v : ℕ) → i < length values → v ≡ number (get_or values i d) → v ≡ get_or (map number values) i 0
value_read number values i d v h read = read ∙ sym (get_or-map number values i d 0 h)

pub value_fits : {X : Type 0} → (number : X → ℕ) (values : List X) (i : ℕ) (d : X) (v w : ℕ) → i < length values → v ≡ number (get_or values i d) → All (λ y. number y < 2 ^ w) values → v < 2 ^ w
value_fits number values i d v w h read all =
    subst (λ (n : ℕ). n < 2 ^ w) (sym read) (All-get_or (λ y. number y < 2 ^ w) values i d h all)

-- the last value is not before the first
pub ends_after_begin : (t w start : ℕ) → 0 < w → 0 < t → start / w + 1 ≤ (start + t - 1) / w + 1
ends_after_begin t w start positive some =
    omega (arith, le-div (start / w) (start + t - 1) w positive (omega (arith, div-add-mod' start w)))

-- ---- where a lane's values stand
pub row_in_lane : (t lane first step : ℕ) → first ≡ row_at t lane 0 → row_at t lane step ≡ first + step
row_in_lane t lane first step e = omega arith

pub row_is_there : (t lane first step : ℕ) → IsLaneWidth t → lane < 1024 / t → step < t → first ≡ row_at t lane 0 → first + step < 1024
row_is_there t lane first step width h k e =
    let there = lane_of-row_at t lane step width h k in
    omega (arith, there.0, row_in_lane t lane first step e)

-- the bits of word k end with those of the lane's values, at the latest
pub word_in_lane : (t w k : ℕ) → k < w → k * t + t ≤ t * w
word_in_lane t w k h = omega (arith, row_fits k t w t h (omega arith))

-- the value that the word begins in, and each that it goes on to, is one of the lane's
pub first_step_below : (t w k : ℕ) → 0 < t → k < w → k * t / w < t
first_step_below t w k positive h = div_below (k * t) w t (omega arith) (omega (arith, word_in_lane t w k h))

pub later_step_below : (t w k s : ℕ) → 0 < t → k < w → s < (k * t + t - 1) / w + 1 → s < t
later_step_below t w k s positive h l =
    omega (arith, div_below (k * t + t - 1) w t (omega arith) (omega (arith, word_in_lane t w k h)))

-- where a later value begins, the word has begun
pub begun_before : (w start s : ℕ) → 0 < w → start / w + 1 ≤ s → start ≤ s * w
begun_before w start s positive h =
    omega (arith, mul-le (start / w + 1) w s w h (omega arith), div-add-mod' start w, mod_below start w positive)

-- a value that begins within the word begins before its end
pub begins_inside : (t w start s : ℕ) → 0 < w → 0 < t → s < (start + t - 1) / w + 1 → s * w < start + t
begins_inside t w start s positive some h =
    omega (arith, mul-le s w ((start + t - 1) / w) w (omega arith) (omega arith), div-add-mod' (start + t - 1) w)

-- past the last value the word is full
pub full_at_the_end : (t w start : ℕ) → 0 < w → 0 < t → t ≤ ((start + t - 1) / w + 1) * w - start
full_at_the_end t w start positive some =
    omega (arith, div-add-mod' (start + t - 1) w, mod_below (start + t - 1) w positive)
