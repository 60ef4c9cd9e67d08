-- What numbers by places tell of the values of a form.
use Rattle.std.proofs.Common.{◌≡◌, ◌≢◌, ℕ, zero, suc, ◌+◌, ◌-◌, ◌%◌, ◌^◌, ◌<◌, ◌≤◌, ℤ, pos, neg_ℤ, ◌+ℤ◌, Bool, List, get_or, refl, sym, ap, ◌∙◌, arith}
use Rattle.std.specs.Int.{w8, w16, w32, w64, int_wrap, cast_unsigned}
use Rattle.std.specs.Int.RustNames.{FitsSigned}
use Rattle.std.proofs.Math.Nat.{pow-le-pow_right}
use Rattle.std.proofs.lemmas.Int.{ints, int_wrap_fits, int_wrap-add_same, SFits-int_wrap, of_z-to_z}
use Rattle.std.proofs.lemmas.List.Elements.{All-get_or}
use Rattle.transpose_order.specs.Place.{IsLaneWidth, lane_of, step_of}
use Rattle.transpose_order.proofs.WidthLemmas.{at_widths}
use Rattle.bit_interleave.specs.Arithmetic.{integer_width}
use Rattle.bit_interleave.specs.Packing.{packed_value, unpacked}
use Rattle.bit_interleave.specs.PackedWords.{PackedWords, HasWidth, FitLanes, words_packing}
use Rattle.bit_interleave.specs.Places.{by_place}
use Rattle.bit_interleave.specs.Range.{value_at}
use Rattle.bit_interleave.proofs.RoundTrip.{packed-unpacked}
use Rattle.bit_interleave.proofs.ValueLemmas.{get_or-unpacked, length-unpacked, All-unpacked}
use Rattle.bit_interleave.proofs.WrapLemmas.{int_wrap_pos}
use Rattle.frame_delta.specs.Extremes.{IsSpread}
use Rattle.frame_delta.specs.Frame.{FrameForm, frame_value, frame_values, ArePacked, TellApart, AreAbove}
use Rattle.frame_delta.specs.Delta.{DeltaForm, delta_at, delta_value, delta_values}
use Rattle.frame_delta.proofs.FrameLemmas.{value_at-frame_values}
use Rattle.frame_delta.proofs.DeltaLemmas.{at_start_or_on, step_wraps, deltas_add_up, value_at-delta_values}
use Rattle.frame_delta.proofs.LeastDelta.{row_before}
use Rattle.frame_delta.proofs.SpanLemmas.{low_bits_wrap}

-- ---- packed numbers
number_is : (t w : ℕ) (words numbers : List ℕ) (n : ℕ) → ArePacked t w words numbers → n < 1024 → by_place numbers n ≡ packed_value t w words (lane_of t n) (step_of t n)
number_is t w words numbers n packs h = packs n h ∙ get_or-unpacked t w words n 0 h

pub packed_small : (t w : ℕ) (words numbers : List ℕ) (n : ℕ) → w ≤ t → ArePacked t w words numbers → n < 1024 → by_place numbers n < 2 ^ t
packed_small t w words numbers n within packs h =
    let base : 0 < 2 = omega arith in
    omega (arith, packs n h, All-get_or (λ v. v < 2 ^ w) (unpacked t w words) n 0 (omega (arith, h, length-unpacked t w words)) (All-unpacked t w words), pow-le-pow_right base within)

-- words are those that pack their numbers
pub words_back : (words : PackedWords) (w : ℕ) → IsLaneWidth words.lane_width → FitLanes words → HasWidth words w → words ≡ words_packing words.lane_width w (unpacked words.lane_width w words.numbers)
words_back words w width fit has =
    sym (ap (λ (ns : List ℕ). same_width words ns) (packed-unpacked words.lane_width w words.numbers width has.count fit))
  where
    same_width : PackedWords → List ℕ → PackedWords
    same_width p ns = record { lane_width = p.lane_width; numbers = ns }

-- the extremes of packed numbers by places are those of the packed numbers
pub spread_of_packed : (t w : ℕ) (words numbers : List ℕ) (p : ℕ → Bool) (low high : ℕ) → ArePacked t w words numbers → IsSpread p (λ n. by_place numbers n) low high → IsSpread p (λ n. get_or (unpacked t w words) n 0) low high
spread_of_packed t w words numbers p low high packs spread =
    let (a, b, c, d) = spread.low_reached in
    let (e, f, g, h) = spread.high_reached in
    record {
      low_bound = λ n l pass. omega (arith, packs n l, spread.low_bound n l pass);
      high_bound = λ n l pass. omega (arith, packs n l, spread.high_bound n l pass);
      low_reached = (a, b, c, d ∙ packs a b);
      high_reached = (e, f, g, h ∙ packs e f);
    }

-- ---- numbers that tell values apart
wraps_apart : (t x y : ℕ) → IsLaneWidth t → x < 2 ^ t → y < 2 ^ t → int_wrap (integer_width t) (pos x) ≡ int_wrap (integer_width t) (pos y) → x ≡ y
wraps_apart t x y width =
    at_widths (λ t. x < 2 ^ t → y < 2 ^ t → int_wrap (integer_width t) (pos x) ≡ int_wrap (integer_width t) (pos y) → x ≡ y)
    (λ h k e. omega (arith, h, k, sym (of_z-to_z w8 (x % 2 ^ 8) (omega arith)) ∙ ap (cast_unsigned w8) (sym (int_wrap_pos w8 x) ∙ e ∙ int_wrap_pos w8 y) ∙ of_z-to_z w8 (y % 2 ^ 8) (omega arith)))
    (λ h k e. omega (arith, h, k, sym (of_z-to_z w16 (x % 2 ^ 16) (omega arith)) ∙ ap (cast_unsigned w16) (sym (int_wrap_pos w16 x) ∙ e ∙ int_wrap_pos w16 y) ∙ of_z-to_z w16 (y % 2 ^ 16) (omega arith)))
    (λ h k e. omega (arith, h, k, sym (of_z-to_z w32 (x % 2 ^ 32) (omega arith)) ∙ ap (cast_unsigned w32) (sym (int_wrap_pos w32 x) ∙ e ∙ int_wrap_pos w32 y) ∙ of_z-to_z w32 (y % 2 ^ 32) (omega arith)))
    (λ h k e. omega (arith, h, k, sym (of_z-to_z w64 (x % 2 ^ 64) (omega arith)) ∙ ap (cast_unsigned w64) (sym (int_wrap_pos w64 x) ∙ e ∙ int_wrap_pos w64 y) ∙ of_z-to_z w64 (y % 2 ^ 64) (omega arith)))
    t width

sums_apart : (t x y : ℕ) (r : ℤ) → IsLaneWidth t → x < 2 ^ t → y < 2 ^ t → int_wrap (integer_width t) (r +ℤ pos x) ≡ int_wrap (integer_width t) (r +ℤ pos y) → x ≡ y
sums_apart t x y r width h k e =
    let back : (n : ℕ) → (r +ℤ pos n) +ℤ neg_ℤ r ≡ pos n = λ n. omega (arith, ints) in
    wraps_apart t x y width h k
    (ap (int_wrap (integer_width t)) (sym (back x))
    ∙ int_wrap-add_same (integer_width t) (r +ℤ pos x) (r +ℤ pos y) (neg_ℤ r) e
    ∙ ap (int_wrap (integer_width t)) (back y))

pub tell_apart : (t : ℕ) (r : ℤ) (numbers : List ℕ) (values : List ℤ) → IsLaneWidth t → ((n : ℕ) → n < 1024 → by_place numbers n < 2 ^ t) → AreAbove t r numbers values → TellApart numbers values
tell_apart t r numbers values width small above m n h k = (
  λ same. above m h ∙ ap (λ x. int_wrap (integer_width t) (r +ℤ pos x)) same ∙ sym (above n k),
  λ same. sums_apart t (by_place numbers m) (by_place numbers n) r width (small m h) (small n k) (sym (above m h) ∙ same ∙ above n k),
)

-- ---- a frame's numbers
pub frame_above : (form : FrameForm) (numbers : List ℕ) → ArePacked form.lane_width form.width form.words.numbers numbers → AreAbove form.lane_width form.reference numbers (frame_values form)
unfolding frame_value
frame_above form numbers packs n h =
    value_at-frame_values form n h
    ∙ ap (λ x. int_wrap (integer_width form.lane_width) (form.reference +ℤ pos x)) (sym (number_is form.lane_width form.width form.words.numbers numbers n packs h))

-- ---- sums within the lanes
first_of_numbers : (form : DeltaForm) (old : List ℕ) (n : ℕ) → ArePacked form.lane_width form.width form.words.numbers old → n < 1024 → n % form.lane_width ≡ 0 → int_wrap (integer_width form.lane_width) (value_at form.bases (lane_of form.lane_width n) +ℤ (form.least +ℤ pos (by_place old n))) ≡ delta_value form n
unfolding delta_value
first_of_numbers form old n packs h e =
    let t = form.lane_width in
    let l = lane_of t n in
    let number = number_is t form.width form.words.numbers old n packs h ∙ ap (packed_value t form.width form.words.numbers l) e in
    ap (λ x. int_wrap (integer_width t) (value_at form.bases l +ℤ (form.least +ℤ pos x))) number
    ∙ sym (deltas_add_up form l 0).0
    ∙ ap (delta_at form l) (sym e)

later_of_numbers : (form : DeltaForm) (old : List ℕ) (n : ℕ) → IsLaneWidth form.lane_width → ArePacked form.lane_width form.width form.words.numbers old → n < 1024 → n % form.lane_width ≢ 0 → int_wrap (integer_width form.lane_width) (delta_value form (n - 1) +ℤ (form.least +ℤ pos (by_place old n))) ≡ delta_value form n
unfolding delta_value
later_of_numbers form old n width packs h some =
    let t = form.lane_width in
    let l = lane_of t n in
    let s = step_of t (n - 1) in
    let back = row_before t n width h some in
    let number = number_is t form.width form.words.numbers old n packs h ∙ ap (packed_value t form.width form.words.numbers l) back.1 in
    ap (λ m. int_wrap (integer_width t) (delta_at form m s +ℤ (form.least +ℤ pos (by_place old n)))) back.0
    ∙ ap (λ x. int_wrap (integer_width t) (delta_at form l s +ℤ (form.least +ℤ pos x))) number
    ∙ sym (deltas_add_up form l s).1
    ∙ ap (delta_at form l) (sym back.1)

-- numbers that add up are the values' bits
pub sums_are_values : (form : DeltaForm) (old new : List ℕ) → IsLaneWidth form.lane_width → ArePacked form.lane_width form.width form.words.numbers old → ((n : ℕ) → n < 1024 → n % form.lane_width ≡ 0 → int_wrap (integer_width form.lane_width) (pos (by_place new n)) ≡ int_wrap (integer_width form.lane_width) (value_at form.bases (lane_of form.lane_width n) +ℤ (form.least +ℤ pos (by_place old n)))) → ((n : ℕ) → n < 1024 → n % form.lane_width ≢ 0 → int_wrap (integer_width form.lane_width) (pos (by_place new n)) ≡ int_wrap (integer_width form.lane_width) (int_wrap (integer_width form.lane_width) (pos (by_place new (n - 1))) +ℤ (form.least +ℤ pos (by_place old n)))) → (n : ℕ) → n < 1024 → int_wrap (integer_width form.lane_width) (pos (by_place new n)) ≡ delta_value form n
sums_are_values form old new width packs first later zero h =
    let none : zero % form.lane_width ≡ 0 = at_widths (λ t. zero % t ≡ 0) refl refl refl refl form.lane_width width in
    first zero h none ∙ first_of_numbers form old zero packs h none
sums_are_values form old new width packs first later (suc n) h =
    let t = form.lane_width in
    let before : suc n - 1 ≡ n = omega arith in
    at_start_or_on (suc n % t) (int_wrap (integer_width t) (pos (by_place new (suc n))) ≡ delta_value form (suc n))
    (λ e. first (suc n) h e ∙ first_of_numbers form old (suc n) packs h e)
    (λ some.
    later (suc n) h some
    ∙ ap (λ m. int_wrap (integer_width t) (int_wrap (integer_width t) (pos (by_place new m)) +ℤ (form.least +ℤ pos (by_place old (suc n))))) before
    ∙ ap (λ z. int_wrap (integer_width t) (z +ℤ (form.least +ℤ pos (by_place old (suc n))))) (sums_are_values form old new width packs first later n (omega (arith, h)))
    ∙ ap (λ m. int_wrap (integer_width t) (delta_value form m +ℤ (form.least +ℤ pos (by_place old (suc n))))) (sym before)
    ∙ later_of_numbers form old (suc n) width packs h some)

pub delta_above : (form : DeltaForm) (new : List ℕ) → ((n : ℕ) → n < 1024 → int_wrap (integer_width form.lane_width) (pos (by_place new n)) ≡ delta_value form n) → AreAbove form.lane_width (pos 0) new (delta_values form)
delta_above form new are n h =
    let none : pos (by_place new n) ≡ pos 0 +ℤ pos (by_place new n) = omega (arith, ints) in
    value_at-delta_values form n h ∙ sym (are n h) ∙ ap (int_wrap (integer_width form.lane_width)) none

-- the low bits of a sum wrap as the sum does
pub low_sum_wraps : (t s b l : ℕ) (z r : ℤ) → IsLaneWidth t → FitsSigned w64 r → int_wrap (integer_width t) (pos b) ≡ int_wrap (integer_width t) z → s ≡ ((b + cast_unsigned w64 r) % 2 ^ 64 + l) % 2 ^ 64 → int_wrap (integer_width t) (pos (s % 2 ^ t)) ≡ int_wrap (integer_width t) (z +ℤ (r +ℤ pos l))
low_sum_wraps t s b l z r width fits before is =
    low_bits_wrap t s width ∙ ap (λ x. int_wrap (integer_width t) (pos x)) is ∙ step_wraps t b l z r width fits before

pub wrapped_twice : (t x y : ℕ) → int_wrap (integer_width t) (pos x) ≡ int_wrap (integer_width t) (pos y) → int_wrap (integer_width t) (pos x) ≡ int_wrap (integer_width t) (int_wrap (integer_width t) (pos y))
wrapped_twice t x y e =
    e ∙ sym (int_wrap_fits (integer_width t) (int_wrap (integer_width t) (pos y)) (SFits-int_wrap (integer_width t) (pos y)))
