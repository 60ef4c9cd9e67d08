-- Lists of packed words and of their values, row by row.
use Rattle.std.proofs.Common.{◌≡◌, ℕ, ◌*◌, ◌/◌, ◌%◌, ◌^◌, ◌<◌, ◌≤◌, List, length, get_or, sym, subst, arith}
use Rattle.std.specs.List.{All}
use Rattle.std.proofs.lemmas.List.Elements.{All-from_get_or}
use Rattle.std.proofs.lemmas.List.FromFn.{length-map-range_with_len}
use Rattle.transpose_order.specs.Place.{IsLaneWidth, lane_of, step_of}
use Rattle.transpose_order.proofs.WidthLemmas.{at_widths}
use Rattle.transpose_order.specs.MaskWords.{length-rows_of, get_or-rows_of}
use Rattle.bit_interleave.specs.Packing.{packed_value, unpacked, packed_word, packed}
use Rattle.bit_interleave.specs.PackedWords.{PackedWords, words_packing, HasWidth, packed_width}
use Rattle.bit_interleave.proofs.StepLemmas.{packed_value-below}

-- ---- values
pub length-unpacked : (t w : ℕ) (words : List ℕ) → length (unpacked t w words) ≡ 1024
unfolding unpacked
length-unpacked t w words = length-rows_of (λ n. packed_value t w words (lane_of t n) (step_of t n))

pub get_or-unpacked : (t w : ℕ) (words : List ℕ) (n d : ℕ) → n < 1024 → get_or (unpacked t w words) n d ≡ packed_value t w words (lane_of t n) (step_of t n)
unfolding unpacked
get_or-unpacked t w words n d h = get_or-rows_of (λ n. packed_value t w words (lane_of t n) (step_of t n)) n d h

pub All-unpacked : (t w : ℕ) (words : List ℕ) → All (λ v. v < 2 ^ w) (unpacked t w words)
All-unpacked t w words =
    All-from_get_or (λ v. v < 2 ^ w) (unpacked t w words) 0
    (λ n h. subst (λ (v : ℕ). v < 2 ^ w) (sym (get_or-unpacked t w words n 0 (omega (arith, length-unpacked t w words)))) (packed_value-below t w words (lane_of t n) (step_of t n)))

-- ---- words
pub length-packed : (t w : ℕ) (values : List ℕ) → length (packed t w values) ≡ w * (1024 / t)
unfolding packed
length-packed t w values =
    length-map-range_with_len (λ i. packed_word t w values (i % (1024 / t)) (i / (1024 / t))) 0 (w * (1024 / t))

pub HasWidth-words_packing : (t w : ℕ) (values : List ℕ) → w ≤ t → HasWidth (words_packing t w values) w
HasWidth-words_packing t w values h = record { fits = h; count = length-packed t w values }

-- words have no width but one
pub packed_width-of : (words : PackedWords) (w : ℕ) → IsLaneWidth words.lane_width → HasWidth words w → packed_width words ≡ w
packed_width-of words w width has =
    at_widths (λ t. length words.numbers ≡ w * (1024 / t) → length words.numbers / (1024 / t) ≡ w) (λ e. omega (arith, e)) (λ e. omega (arith, e)) (λ e. omega (arith, e)) (λ e. omega (arith, e)) words.lane_width width has.count

pub packed_width-words_packing : (t w : ℕ) (values : List ℕ) → IsLaneWidth t → w ≤ t → packed_width (words_packing t w values) ≡ w
packed_width-words_packing t w values width within =
    packed_width-of (words_packing t w values) w width (HasWidth-words_packing t w values within)
