-- A frame is the least form exactly where it is tight.
use Rattle.std.proofs.Common.{◌≡◌, ℕ, ◌^◌, ◌<◌, ◌≤◌, ℤ, pos, ◌+ℤ◌, ◌≤ℤ◌, true, List, length, get_or, refl, sym, ap, ◌∙◌, subst, arith}
use Rattle.std.specs.Int.{int_wrap, int_gap}
use Rattle.std.specs.Int.RustNames.{FitsSigned}
use Rattle.std.proofs.lemmas.List.Elements.{All-get_or, All-from_get_or}
use Rattle.std.proofs.lemmas.Int.{SFits-int_wrap}
use Rattle.std.proofs.Math.Nat.{pow-le-pow_right}
use Rattle.transpose_order.specs.Place.{IsLaneWidth, lane_of, step_of}
use Rattle.transpose_order.specs.MaskWords.{rows_of-same}
use Rattle.bit_interleave.specs.Arithmetic.{integer_width, least_width}
use Rattle.bit_interleave.specs.Packing.{packed_value, unpacked}
use Rattle.bit_interleave.specs.PackedWords.{PackedWords, words_packing}
use Rattle.bit_interleave.proofs.RoundTrip.{unpacked-packed}
use Rattle.bit_interleave.proofs.ValueLemmas.{get_or-unpacked, length-unpacked, All-unpacked}
use Rattle.bit_interleave.specs.Range.{AreInRange, value_at}
use Rattle.frame_delta.specs.Extremes.{IsSpread, IsTightFrame}
use Rattle.frame_delta.specs.Frame.{FrameForm, frame_value, frame_values, least_value, greatest_value, frame_width, gaps_above, least_frame}
use Rattle.frame_delta.proofs.FramedLemmas.{IsFramed, IsTight, least_of, greatest_of, tight_least, tight_range, tight_gaps, least_form_is_tight, no_smaller_width}
use Rattle.frame_delta.proofs.FrameLemmas.{least_value_is, greatest_value_is, frame_width_is, value_at-frame_values, length-frame_values, frame_from_parts, gaps_above_is, length-gaps_above, gaps_have_width}

unfoldable pub numbers_of_frame : FrameForm → List ℕ
numbers_of_frame c = unpacked c.lane_width c.width c.words.numbers

length-numbers_of_frame : (c : FrameForm) → length (numbers_of_frame c) ≡ 1024
unfolding numbers_of_frame
length-numbers_of_frame c = length-unpacked c.lane_width c.width c.words.numbers

frame_value_is : (c : FrameForm) (n : ℕ) → n < 1024 → frame_value c n ≡ int_wrap (integer_width c.lane_width) (c.reference +ℤ pos (get_or (numbers_of_frame c) n 0))
unfolding frame_value numbers_of_frame
frame_value_is c n h =
    ap (λ g. int_wrap (integer_width c.lane_width) (c.reference +ℤ pos g)) (sym (get_or-unpacked c.lane_width c.width c.words.numbers n 0 h))

pub frame_value_fits : (c : FrameForm) (n : ℕ) → FitsSigned (integer_width c.lane_width) (frame_value c n)
unfolding frame_value
frame_value_fits c n =
    SFits-int_wrap (integer_width c.lane_width) (c.reference +ℤ pos (packed_value c.lane_width c.width c.words.numbers (lane_of c.lane_width n) (step_of c.lane_width n)))

pub AreInRange-frame_values : (c : FrameForm) → AreInRange c.lane_width (frame_values c)
AreInRange-frame_values c =
    All-from_get_or (λ v. FitsSigned (integer_width c.lane_width) v) (frame_values c) (pos 0)
    (λ n h. subst (λ (z : ℤ). FitsSigned (integer_width c.lane_width) z) (sym (value_at-frame_values c n (omega (arith, length-frame_values c)))) (frame_value_fits c n))

-- each packed number has the width
number_below : (c : FrameForm) (n : ℕ) → n < 1024 → get_or (numbers_of_frame c) n 0 < 2 ^ c.width
unfolding numbers_of_frame
number_below c n h =
    All-get_or (λ v. v < 2 ^ c.width) (unpacked c.lane_width c.width c.words.numbers) n 0 (omega (arith, length-unpacked c.lane_width c.width c.words.numbers)) (All-unpacked c.lane_width c.width c.words.numbers)

frame_is_framed : (c : FrameForm) → IsLaneWidth c.lane_width → c.width ≤ c.lane_width → FitsSigned (integer_width c.lane_width) c.reference → IsFramed c.lane_width (λ _. true) (value_at (frame_values c)) c.reference (λ n. get_or (numbers_of_frame c) n 0) 0
frame_is_framed c width within fits =
    let base : 0 < 2 = omega arith in
    record {
      width = width;
      fits = fits;
      sums = λ n h _. value_at-frame_values c n h ∙ frame_value_is c n h;
      small = λ n h _. omega (arith, number_below c n h, pow-le-pow_right base within);
      passes = refl;
      within = omega arith;
    }

-- a tight frame is the least form
tight_frame : (c : FrameForm) (low high : ℕ) → IsSpread (λ _. true) (λ n. get_or (numbers_of_frame c) n 0) low high → IsTightFrame c.lane_width c.width c.reference low high → IsTight c.lane_width (λ _. true) c.reference (λ n. get_or (numbers_of_frame c) n 0) high
tight_frame c low high spread tight = record {
  bound = spread.high_bound;
  reached_at = spread.high_reached.0;
  reached_within = spread.high_reached.1;
  reached_passes = refl;
  reached = sym spread.high_reached.3;
  zero_at = spread.low_reached.0;
  zero_within = spread.low_reached.1;
  zero_passes = refl;
  zero = sym spread.low_reached.3 ∙ tight.zero;
  stays = tight.stays;
}

numbers_are_gaps : (c : FrameForm) (high : ℕ) → IsLaneWidth c.lane_width → c.width ≤ c.lane_width → FitsSigned (integer_width c.lane_width) c.reference → IsTight c.lane_width (λ _. true) c.reference (λ n. get_or (numbers_of_frame c) n 0) high → numbers_of_frame c ≡ gaps_above c.reference (frame_values c)
unfolding gaps_above
numbers_are_gaps c high width within fits whole =
    let values = frame_values c in
    let framed = frame_is_framed c width within fits in
    rows_of-same (λ n. int_gap c.reference (value_at values n)) (numbers_of_frame c) 0 (length-numbers_of_frame c)
    (λ n h.
    sym (tight_gaps c.lane_width (λ _. true) (value_at values) c.reference (λ k. get_or (numbers_of_frame c) k 0) 0 high framed whole n h refl)
    ∙ ap (λ z. int_gap z (value_at values n)) (tight_least c.lane_width (λ _. true) (value_at values) c.reference (λ k. get_or (numbers_of_frame c) k 0) 0 high framed whole))

pub tight_is_least : (c : FrameForm) (low high : ℕ) → IsLaneWidth c.lane_width → c.width ≤ c.lane_width → FitsSigned (integer_width c.lane_width) c.reference → c.words ≡ words_packing c.lane_width c.width (numbers_of_frame c) → IsSpread (λ _. true) (λ n. get_or (numbers_of_frame c) n 0) low high → IsTightFrame c.lane_width c.width c.reference low high → c ≡ least_frame c.lane_width (frame_values c)
tight_is_least c low high width within fits back spread tight =
    let t = c.lane_width in
    let values = frame_values c in
    let framed = frame_is_framed c width within fits in
    let whole = tight_frame c low high spread tight in
    let least : c.reference ≡ least_value values = sym (least_value_is values ∙ tight_least t (λ _. true) (value_at values) c.reference (λ n. get_or (numbers_of_frame c) n 0) 0 high framed whole) in
    let range : int_gap (least_value values) (greatest_value values) ≡ high = rw (least_value_is values, greatest_value_is values) (tight_range t (λ _. true) (value_at values) c.reference (λ n. get_or (numbers_of_frame c) n 0) 0 high framed whole) in
    let wide : c.width ≡ frame_width values = tight.least ∙ sym (frame_width_is values ∙ ap least_width range) in
    let gaps : numbers_of_frame c ≡ gaps_above c.reference values = numbers_are_gaps c high width within fits whole in
    frame_from_parts c t values (numbers_of_frame c) refl back wide least gaps

-- the least form is tight
least_reference : (t : ℕ) (values : List ℤ) → (least_frame t values).reference ≡ least_value values
unfolding least_frame
least_reference t values = refl

least_width_of_frame : (t : ℕ) (values : List ℤ) → (least_frame t values).width ≡ frame_width values
unfolding least_frame
least_width_of_frame t values = refl

least_words : (t : ℕ) (values : List ℤ) → (least_frame t values).words ≡ words_packing t (frame_width values) (gaps_above (least_value values) values)
unfolding least_frame
least_words t values = refl

-- its packed numbers are the gaps
least_numbers : (c : FrameForm) → IsLaneWidth c.lane_width → c ≡ least_frame c.lane_width (frame_values c) → numbers_of_frame c ≡ gaps_above (least_value (frame_values c)) (frame_values c)
unfolding numbers_of_frame
least_numbers c width is =
    let t = c.lane_width in
    let values = frame_values c in
    let long = length-frame_values c in
    let fit = AreInRange-frame_values c in
    ap (λ (w : ℕ). unpacked t w c.words.numbers) (ap (λ (d : FrameForm). d.width) is ∙ least_width_of_frame t values)
    ∙ ap (λ (p : PackedWords). unpacked t (frame_width values) p.numbers) (ap (λ (d : FrameForm). d.words) is ∙ least_words t values)
    ∙ unpacked-packed t (frame_width values) (gaps_above (least_value values) values) width (length-gaps_above (least_value values) values) (gaps_have_width t values width long fit)

pub least_is_tight : (c : FrameForm) (low high : ℕ) → IsLaneWidth c.lane_width → c.width ≤ c.lane_width → FitsSigned (integer_width c.lane_width) c.reference → IsSpread (λ _. true) (λ n. get_or (numbers_of_frame c) n 0) low high → c ≡ least_frame c.lane_width (frame_values c) → IsTightFrame c.lane_width c.width c.reference low high
least_is_tight c low high width within fits spread is =
    let t = c.lane_width in
    let values = frame_values c in
    let least : c.reference ≡ least_value values = ap (λ (d : FrameForm). d.reference) is ∙ least_reference t values in
    let wide : c.width ≡ frame_width values = ap (λ (d : FrameForm). d.width) is ∙ least_width_of_frame t values in
    let whole = least_form_is_tight t (λ _. true) (value_at values) c.reference (λ n. get_or (numbers_of_frame c) n 0) 0 (frame_is_framed c width within fits) (least ∙ least_value_is values)
    (λ n h _. ap (λ xs. get_or xs n 0) (least_numbers c width is) ∙ gaps_above_is (least_value values) values n 0 h ∙ ap (λ z. int_gap z (value_at values n)) (least_value_is values)) in
    let range = int_gap (least_of (λ _. true) (value_at values) 0) (greatest_of (λ _. true) (value_at values) 0) in
    let top : high ≡ range = omega (arith, spread.high_bound whole.reached_at whole.reached_within refl, whole.reached, whole.bound spread.high_reached.0 spread.high_reached.1 refl, spread.high_reached.3) in
    record {
      zero = omega (arith, spread.low_bound whole.zero_at whole.zero_within refl, whole.zero);
      least = wide ∙ frame_width_is values ∙ ap least_width (ap (λ z. int_gap z (greatest_value values)) (least_value_is values) ∙ ap (int_gap (least_of (λ _. true) (value_at values) 0)) (greatest_value_is values) ∙ sym top);
      stays = subst (λ (g : ℕ). c.reference ≤ℤ int_wrap (integer_width t) (c.reference +ℤ pos g)) (sym top) whole.stays;
    }

pub least_frame_is_narrowest : (c : FrameForm) → IsLaneWidth c.lane_width → c.width ≤ c.lane_width → FitsSigned (integer_width c.lane_width) c.reference → ((n : ℕ) → n < 1024 → c.reference ≤ℤ value_at (frame_values c) n) → (least_frame c.lane_width (frame_values c)).width ≤ c.width
least_frame_is_narrowest c lanes within fits above =
    let values = frame_values c in
    rw (least_width_of_frame c.lane_width values, frame_width_is values, least_value_is values, greatest_value_is values)
    (no_smaller_width c.lane_width (λ _. true) (value_at values) c.reference (λ n. get_or (numbers_of_frame c) n 0) 0 c.width (frame_is_framed c lanes within fits) (λ n h _. above n h) (λ n h _. number_below c n h) within)
