-- A bit of a word is a bit of one value and back, so packing and unpacking undo each other.
use Rattle.std.proofs.Common.{◌≡◌, ℕ, ◌+◌, ◌*◌, ◌/◌, ◌%◌, ◌^◌, ◌<◌, List, length, get_or, sym, ap, ◌∙◌, subst, arith}
use Rattle.std.specs.Int.{bit_at}
use Rattle.std.specs.List.{All}
use Rattle.std.proofs.lemmas.List.Elements.{All-get_or}
use Rattle.std.proofs.lemmas.List.FromFn.{get_or-map-range_with_len, fill_by_all}
use Rattle.std.proofs.lemmas.Nat.{div-mul-add, mod-mul-add, div-add-mod', mod_below, row_fits, div_below}
use Rattle.std.proofs.lemmas.Nat.Bits.{bit_at-lt}
use Rattle.transpose_order.specs.Place.{IsLaneWidth, lane_of, step_of, row_at}
use Rattle.transpose_order.specs.MaskWords.{rows_of-same, get_or-rows_of, number_of_bits_is, bit_at-number_of_bits}
use Rattle.transpose_order.proofs.PlaceLemmas.{row_at-lane_of, lane_of-row_at}
use Rattle.transpose_order.proofs.WidthLemmas.{at_widths}
use Rattle.bit_interleave.specs.Packing.{lane_bit, packed_value, unpacked, value_bit, packed_word, packed}
use Rattle.bit_interleave.proofs.StepLemmas.{lane_bit_at, positive_width}
use Rattle.bit_interleave.proofs.PackLemmas.{value_bit_at, word_in_lane}

-- bit r of a word is a bit of a value
pub bit_at-packed_word : (t w : ℕ) (values : List ℕ) (lane k r : ℕ) → r < t → bit_at (packed_word t w values lane k) r ≡ value_bit t w values lane (k * t + r)
unfolding packed_word value_bit
bit_at-packed_word t w values lane k r h =
    bit_at-number_of_bits t (λ b. value_bit t w values lane (k * t + b)) (λ b _. bit_at-lt (get_or values (row_at t lane ((k * t + b) / w)) 0) ((k * t + b) % w)) r h

-- bit c of a value is a bit of a word
pub bit_at-packed_value : (t w : ℕ) (words : List ℕ) (lane step c : ℕ) → c < w → bit_at (packed_value t w words lane step) c ≡ lane_bit t words lane (step * w + c)
unfolding packed_value lane_bit
bit_at-packed_value t w words lane step c h =
    bit_at-number_of_bits w (λ k. lane_bit t words lane (step * w + k)) (λ k _. bit_at-lt (get_or words ((step * w + k) / t * (1024 / t) + lane) 0) ((step * w + k) % t)) c h

-- word k of a lane in the vector
pub get_or-packed : (t w : ℕ) (values : List ℕ) (lane k : ℕ) → lane < 1024 / t → k < w → get_or (packed t w values) (k * (1024 / t) + lane) 0 ≡ packed_word t w values lane k
unfolding packed
get_or-packed t w values lane k h l =
    get_or-map-range_with_len (λ i. packed_word t w values (i % (1024 / t)) (i / (1024 / t))) 0 (w * (1024 / t)) (k * (1024 / t) + lane) (k * (1024 / t) + lane) 0 (omega (arith, row_fits k (1024 / t) w (1024 / t) l (omega arith))) (omega arith)
    ∙ ap (λ i. packed_word t w values i ((k * (1024 / t) + lane) / (1024 / t))) (mod-mul-add k (1024 / t) lane h)
    ∙ ap (packed_word t w values lane) (div-mul-add k (1024 / t) lane h)

-- a bit of the packed words is a bit of the values
pub lane_bit-packed : (t w : ℕ) (values : List ℕ) (lane b : ℕ) → 0 < t → lane < 1024 / t → b < t * w → lane_bit t (packed t w values) lane b ≡ value_bit t w values lane b
lane_bit-packed t w values lane b positive h l =
    let k = b / t in
    let whole : k * t + b % t ≡ b = div-add-mod' b t in
    lane_bit_at t (packed t w values) lane b k (b % t) (mod_below b t positive) (sym whole)
    ∙ ap (λ x. bit_at x (b % t)) (get_or-packed t w values lane k h (div_below b t w positive (omega arith)))
    ∙ bit_at-packed_word t w values lane k (b % t) (mod_below b t positive)
    ∙ ap (value_bit t w values lane) whole

-- the value at a row comes back
value_comes_back : (t w : ℕ) (values : List ℕ) (n : ℕ) → IsLaneWidth t → get_or values n 0 < 2 ^ w → n < 1024 → get_or values n 0 ≡ packed_value t w (packed t w values) (lane_of t n) (step_of t n)
unfolding packed_value
value_comes_back t w values n width fits h =
    let place = row_at-lane_of t n width h in
    number_of_bits_is w (get_or values n 0) (λ c. lane_bit t (packed t w values) (lane_of t n) (step_of t n * w + c)) fits
    (λ c l.
    sym (lane_bit-packed t w values (lane_of t n) (step_of t n * w + c) (positive_width t width) place.0 (omega (arith, row_fits (step_of t n) w t w place.1 (omega arith)))
    ∙ value_bit_at t w values (lane_of t n) (step_of t n * w + c) (step_of t n) c l (let same : step_of t n * w + c ≡ step_of t n * w + c = omega arith in same)
    ∙ ap (λ i. bit_at (get_or values i 0) c) place.2))

pub unpacked-packed : (t w : ℕ) (values : List ℕ) → IsLaneWidth t → length values ≡ 1024 → All (λ v. v < 2 ^ w) values → unpacked t w (packed t w values) ≡ values
unfolding unpacked
unpacked-packed t w values width long fit =
    sym (rows_of-same (λ n. packed_value t w (packed t w values) (lane_of t n) (step_of t n)) values 0 long
    (λ n h. value_comes_back t w values n width (All-get_or (λ v. v < 2 ^ w) values n 0 (omega arith) fit) h))

-- a bit of the unpacked values is a bit of the words
value_bit-unpacked : (t w : ℕ) (words : List ℕ) (lane b : ℕ) → IsLaneWidth t → 0 < w → lane < 1024 / t → b < t * w → value_bit t w (unpacked t w words) lane b ≡ lane_bit t words lane b
unfolding unpacked
value_bit-unpacked t w words lane b width positive h l =
    let s = b / w in
    let whole : s * w + b % w ≡ b = div-add-mod' b w in
    let place = lane_of-row_at t lane s width h (div_below b w t positive l) in
    value_bit_at t w (unpacked t w words) lane b s (b % w) (mod_below b w positive) (sym whole)
    ∙ ap (λ x. bit_at x (b % w)) (get_or-rows_of (λ n. packed_value t w words (lane_of t n) (step_of t n)) (row_at t lane s) 0 place.0 ∙ ap (λ m. packed_value t w words m (step_of t (row_at t lane s))) place.1 ∙ ap (packed_value t w words lane) place.2)
    ∙ bit_at-packed_value t w words lane s (b % w) (mod_below b w positive)
    ∙ ap (lane_bit t words lane) whole

word_comes_back : (t w : ℕ) (words : List ℕ) (lane k : ℕ) → IsLaneWidth t → lane < 1024 / t → k < w → get_or words (k * (1024 / t) + lane) 0 < 2 ^ t → get_or words (k * (1024 / t) + lane) 0 ≡ packed_word t w (unpacked t w words) lane k
unfolding packed_word
word_comes_back t w words lane k width h l fits =
    number_of_bits_is t (get_or words (k * (1024 / t) + lane) 0) (λ b. value_bit t w (unpacked t w words) lane (k * t + b)) fits
    (λ b m.
    sym (value_bit-unpacked t w words lane (k * t + b) width (omega arith) h (omega (arith, word_in_lane t w k l))
    ∙ lane_bit_at t words lane (k * t + b) k b m (let same : k * t + b ≡ k * t + b = omega arith in same)))

pub packed-unpacked : (t w : ℕ) (words : List ℕ) → IsLaneWidth t → length words ≡ w * (1024 / t) → All (λ n. n < 2 ^ t) words → packed t w (unpacked t w words) ≡ words
unfolding packed
packed-unpacked t w words width long fit =
    sym (fill_by_all (λ i. packed_word t w (unpacked t w words) (i % (1024 / t)) (i / (1024 / t))) words (w * (1024 / t)) 0 long
    (λ i h.
    let lanes = 1024 / t in
    let some : 0 < lanes = some_lanes t width in
    let whole : i / lanes * lanes + i % lanes ≡ i = div-add-mod' i lanes in
    let fits : get_or words (i / lanes * lanes + i % lanes) 0 < 2 ^ t = subst (λ (j : ℕ). get_or words j 0 < 2 ^ t) (sym whole) (All-get_or (λ n. n < 2 ^ t) words i 0 (omega arith) fit) in
    ap (λ j. get_or words j 0) (sym whole)
    ∙ word_comes_back t w words (i % lanes) (i / lanes) width (mod_below i lanes some) (div_below i lanes w some h) fits))
  where
    some_lanes : (t : ℕ) → IsLaneWidth t → 0 < 1024 / t
    some_lanes t width = at_widths (λ t. 0 < 1024 / t) (omega arith) (omega arith) (omega arith) (omega arith) t width
