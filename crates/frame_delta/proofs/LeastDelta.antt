-- A vector of deltas is the least form exactly where its packed numbers start each lane at 0 and are tight after that.
use Rattle.std.proofs.Common.{◌≡◌, ◌≢◌, ℕ, suc, ◌-◌, ◌/◌, ◌%◌, ◌^◌, ◌<◌, ◌≤◌, ℤ, pos, neg_ℤ, ◌+ℤ◌, ◌-ℤ◌, ◌≤ℤ◌, Bool, true, false, not, cond, ◌==◌, List, length, get_or, refl, sym, ap, ◌∙◌, subst, arith}
use Rattle.std.specs.Int.{int_wrap, int_gap}
use Rattle.std.specs.Int.RustNames.{FitsSigned}
use Rattle.std.proofs.lemmas.Bool.Decides.{nat_tests}
use Rattle.std.proofs.lemmas.List.Elements.{All-get_or}
use Rattle.std.proofs.lemmas.List.FromFn.{fill_by_all}
use Rattle.std.proofs.lemmas.Int.{ints, int_wrap_fits, int_wrap-add_left, int_wrap-sub_right}
use Rattle.std.proofs.Math.Nat.{pow-le-pow_right}
use Rattle.transpose_order.specs.Place.{IsLaneWidth, lane_of, step_of, row_at}
use Rattle.transpose_order.specs.MaskWords.{rows_of-same}
use Rattle.transpose_order.proofs.WidthLemmas.{at_widths}
use Rattle.transpose_order.proofs.PlaceLemmas.{lane_of-row_at}
use Rattle.bit_interleave.specs.Arithmetic.{integer_width, least_width}
use Rattle.bit_interleave.specs.Packing.{packed_value, unpacked}
use Rattle.bit_interleave.specs.PackedWords.{PackedWords, words_packing}
use Rattle.bit_interleave.proofs.RoundTrip.{unpacked-packed}
use Rattle.bit_interleave.proofs.StepLemmas.{positive_width}
use Rattle.bit_interleave.proofs.ValueLemmas.{get_or-unpacked, length-unpacked, All-unpacked}
use Rattle.bit_interleave.specs.Range.{AreInRange, value_at}
use Rattle.frame_delta.specs.Extremes.{IsSpread, IsTightFrame}
use Rattle.frame_delta.specs.Delta.{DeltaForm, sum_to, delta_at, delta_value, delta_values, is_later, difference_at, least_difference, greatest_difference, delta_width, later_gaps, bases_of, least_delta}
use Rattle.frame_delta.proofs.FramedLemmas.{IsFramed, IsTight, least_of, greatest_of, tight_least, tight_range, tight_gaps, least_form_is_tight, no_smaller_width}
use Rattle.frame_delta.proofs.FrameLemmas.{column_fits}
use Rattle.frame_delta.proofs.DeltaLemmas.{later_was, row_one_is_later, least_difference_is, greatest_difference_is, delta_width_is, length-later_gaps, first_gap, later_gap, later_gaps_have_width, sum_to-zero, sum_to-suc, regroup, delta_from_parts, value_at-delta_values}

unfoldable pub numbers_of_delta : DeltaForm → List ℕ
numbers_of_delta c = unpacked c.lane_width c.width c.words.numbers

length-numbers_of_delta : (c : DeltaForm) → length (numbers_of_delta c) ≡ 1024
unfolding numbers_of_delta
length-numbers_of_delta c = length-unpacked c.lane_width c.width c.words.numbers

number_at : (c : DeltaForm) (n : ℕ) → n < 1024 → get_or (numbers_of_delta c) n 0 ≡ packed_value c.lane_width c.width c.words.numbers (lane_of c.lane_width n) (step_of c.lane_width n)
unfolding numbers_of_delta
number_at c n h = get_or-unpacked c.lane_width c.width c.words.numbers n 0 h

number_below : (c : DeltaForm) (n : ℕ) → n < 1024 → get_or (numbers_of_delta c) n 0 < 2 ^ c.width
unfolding numbers_of_delta
number_below c n h =
    All-get_or (λ v. v < 2 ^ c.width) (unpacked c.lane_width c.width c.words.numbers) n 0 (omega (arith, length-unpacked c.lane_width c.width c.words.numbers)) (All-unpacked c.lane_width c.width c.words.numbers)

-- what a lane adds at a step
unfoldable deltas_of : DeltaForm → ℕ → ℕ → ℤ
deltas_of c lane s = c.least +ℤ pos (packed_value c.lane_width c.width c.words.numbers lane s)

delta_at_is : (c : DeltaForm) (lane step : ℕ) → delta_at c lane step ≡ int_wrap (integer_width c.lane_width) (value_at c.bases lane +ℤ sum_to (suc step) (deltas_of c lane))
unfolding delta_at deltas_of
delta_at_is c lane step = refl

delta_here : (c : DeltaForm) (n : ℕ) → n < 1024 → value_at (delta_values c) n ≡ delta_at c (lane_of c.lane_width n) (step_of c.lane_width n)
unfolding delta_value
delta_here c n h = value_at-delta_values c n h

-- the row before a later row is the step before
pub row_before : (t n : ℕ) → IsLaneWidth t → n < 1024 → n % t ≢ 0 → (lane_of t (n - 1) ≡ lane_of t n) × (step_of t n ≡ suc (step_of t (n - 1)))
row_before t n width =
    at_widths (λ t. n < 1024 → n % t ≢ 0 → (lane_of t (n - 1) ≡ lane_of t n) × (step_of t n ≡ suc (step_of t (n - 1))))
    (λ h k. (omega arith, omega arith)) (λ h k. (omega arith, omega arith)) (λ h k. (omega arith, omega arith)) (λ h k. (omega arith, omega arith)) t width

-- wrapped sums differ by what was added
wrapped_difference : (t : ℕ) (a d : ℤ) → int_wrap (integer_width t) (int_wrap (integer_width t) (a +ℤ d) -ℤ int_wrap (integer_width t) a) ≡ int_wrap (integer_width t) d
wrapped_difference t a d =
    let as_sum : int_wrap (integer_width t) (a +ℤ d) -ℤ a ≡ int_wrap (integer_width t) (a +ℤ d) +ℤ neg_ℤ a = omega (arith, ints) in
    let rest : (a +ℤ d) +ℤ neg_ℤ a ≡ d = omega (arith, ints) in
    int_wrap-sub_right (integer_width t) (int_wrap (integer_width t) (a +ℤ d)) a
    ∙ ap (int_wrap (integer_width t)) as_sum
    ∙ int_wrap-add_left (integer_width t) (a +ℤ d) (neg_ℤ a)
    ∙ ap (int_wrap (integer_width t)) rest

-- a later difference is the least delta and the packed number
later_difference : (c : DeltaForm) (n : ℕ) → IsLaneWidth c.lane_width → n < 1024 → n % c.lane_width ≢ 0 → difference_at c.lane_width (delta_values c) n ≡ int_wrap (integer_width c.lane_width) (c.least +ℤ pos (get_or (numbers_of_delta c) n 0))
unfolding difference_at deltas_of
later_difference c n width h later =
    let t = c.lane_width in
    let l = lane_of t n in
    let s = step_of t (n - 1) in
    let back = row_before t n width h later in
    let a = value_at c.bases l +ℤ sum_to (suc s) (deltas_of c l) in
    let d = deltas_of c l (suc s) in
    let here : value_at (delta_values c) n ≡ int_wrap (integer_width t) (a +ℤ d) =
    delta_here c n h ∙ ap (delta_at c l) back.1 ∙ delta_at_is c l (suc s)
    ∙ ap (λ z. int_wrap (integer_width t) (value_at c.bases l +ℤ z)) (sum_to-suc (suc s) (deltas_of c l))
    ∙ ap (int_wrap (integer_width t)) (regroup (value_at c.bases l) (sum_to (suc s) (deltas_of c l)) d) in
    let before : value_at (delta_values c) (n - 1) ≡ int_wrap (integer_width t) a =
    delta_here c (n - 1) (omega arith) ∙ ap (λ m. delta_at c m s) back.0 ∙ delta_at_is c l s in
    ap (λ z. int_wrap (integer_width t) (z -ℤ value_at (delta_values c) (n - 1))) here
    ∙ ap (λ z. int_wrap (integer_width t) (int_wrap (integer_width t) (a +ℤ d) -ℤ z)) before
    ∙ wrapped_difference t a d
    ∙ ap (λ m. int_wrap (integer_width t) (c.least +ℤ pos (packed_value t c.width c.words.numbers l m))) (sym back.1)
    ∙ ap (λ g. int_wrap (integer_width t) (c.least +ℤ pos g)) (sym (number_at c n h))

delta_is_framed : (c : DeltaForm) → IsLaneWidth c.lane_width → c.width ≤ c.lane_width → FitsSigned (integer_width c.lane_width) c.least → IsFramed c.lane_width (is_later c.lane_width) (difference_at c.lane_width (delta_values c)) c.least (λ n. get_or (numbers_of_delta c) n 0) 1
delta_is_framed c width within fits =
    let base : 0 < 2 = omega arith in
    record {
      width = width;
      fits = fits;
      sums = λ n h later. later_difference c n width h (later_was c.lane_width n later);
      small = λ n h _. omega (arith, number_below c n h, pow-le-pow_right base within);
      passes = row_one_is_later c.lane_width width;
      within = omega arith;
    }

tight_delta : (c : DeltaForm) (low high : ℕ) → IsSpread (is_later c.lane_width) (λ n. get_or (numbers_of_delta c) n 0) low high → IsTightFrame c.lane_width c.width c.least low high → IsTight c.lane_width (is_later c.lane_width) c.least (λ n. get_or (numbers_of_delta c) n 0) high
tight_delta c low high spread tight = record {
  bound = spread.high_bound;
  reached_at = spread.high_reached.0;
  reached_within = spread.high_reached.1;
  reached_passes = spread.high_reached.2;
  reached = sym spread.high_reached.3;
  zero_at = spread.low_reached.0;
  zero_within = spread.low_reached.1;
  zero_passes = spread.low_reached.2;
  zero = sym spread.low_reached.3 ∙ tight.zero;
  stays = tight.stays;
}

-- each packed number is its gap
numbers_are_gaps : (c : DeltaForm) (high : ℕ) → IsLaneWidth c.lane_width → c.width ≤ c.lane_width → FitsSigned (integer_width c.lane_width) c.least → ((n : ℕ) → n < 1024 → is_later c.lane_width n ≡ false → get_or (numbers_of_delta c) n 0 ≡ 0) → IsTight c.lane_width (is_later c.lane_width) c.least (λ n. get_or (numbers_of_delta c) n 0) high → numbers_of_delta c ≡ later_gaps c.lane_width c.least (delta_values c)
unfolding later_gaps
numbers_are_gaps c high width within fits zeros whole =
    rows_of-same (λ n. cond (n % c.lane_width == 0) 0 (int_gap c.least (difference_at c.lane_width (delta_values c) n))) (numbers_of_delta c) 0 (length-numbers_of_delta c)
    (λ n h. row n h (n % c.lane_width == 0) refl)
  where
    row : (n : ℕ) → n < 1024 → (b : Bool) → (n % c.lane_width == 0) ≡ b → get_or (numbers_of_delta c) n 0 ≡ cond b 0 (int_gap c.least (difference_at c.lane_width (delta_values c) n))
    row n h true e = zeros n h (ap not e)
    row n h false e =
        let framed = delta_is_framed c width within fits in
        sym (tight_gaps c.lane_width (is_later c.lane_width) (difference_at c.lane_width (delta_values c)) c.least (λ k. get_or (numbers_of_delta c) k 0) 1 high framed whole n h (ap not e))
        ∙ ap (λ z. int_gap z (difference_at c.lane_width (delta_values c) n)) (tight_least c.lane_width (is_later c.lane_width) (difference_at c.lane_width (delta_values c)) c.least (λ k. get_or (numbers_of_delta c) k 0) 1 high framed whole)

-- where a lane starts at 0, its base is its first value less the least delta
base_is : (c : DeltaForm) (lane : ℕ) → IsLaneWidth c.lane_width → lane < 1024 / c.lane_width → FitsSigned (integer_width c.lane_width) (value_at c.bases lane) → get_or (numbers_of_delta c) (row_at c.lane_width lane 0) 0 ≡ 0 → value_at c.bases lane ≡ int_wrap (integer_width c.lane_width) (value_at (delta_values c) (row_at c.lane_width lane 0) -ℤ c.least)
unfolding deltas_of
base_is c lane width h fits none =
    let t = c.lane_width in
    let b = value_at c.bases lane in
    let n = row_at t lane 0 in
    let there = lane_of-row_at t lane 0 width h (positive_width t width) in
    let zero_there : packed_value t c.width c.words.numbers lane 0 ≡ 0 =
    sym (ap (λ l. packed_value t c.width c.words.numbers l (step_of t n)) there.1 ∙ ap (packed_value t c.width c.words.numbers lane) there.2) ∙ sym (number_at c n there.0) ∙ none in
    let first : value_at (delta_values c) n ≡ int_wrap (integer_width t) (b +ℤ c.least) =
    delta_here c n there.0 ∙ ap (λ l. delta_at c l (step_of t n)) there.1 ∙ ap (delta_at c lane) there.2 ∙ delta_at_is c lane 0
    ∙ ap (λ z. int_wrap (integer_width t) (b +ℤ z)) (sum_to-suc 0 (deltas_of c lane) ∙ ap (λ z. z +ℤ (c.least +ℤ pos (packed_value t c.width c.words.numbers lane 0))) (sum_to-zero (deltas_of c lane)) ∙ ap (λ g. pos 0 +ℤ (c.least +ℤ pos g)) zero_there)
    ∙ ap (int_wrap (integer_width t)) (plain b c.least) in
    sym (ap (λ z. int_wrap (integer_width t) (z -ℤ c.least)) first
    ∙ ap (int_wrap (integer_width t)) (minus (int_wrap (integer_width t) (b +ℤ c.least)) c.least)
    ∙ int_wrap-add_left (integer_width t) (b +ℤ c.least) (neg_ℤ c.least)
    ∙ ap (int_wrap (integer_width t)) (cancel b c.least)
    ∙ int_wrap_fits (integer_width t) b fits)
  where
    plain : (b r : ℤ) → b +ℤ (pos 0 +ℤ (r +ℤ pos 0)) ≡ b +ℤ r
    plain b r = omega (arith, ints)

    minus : (x r : ℤ) → x -ℤ r ≡ x +ℤ neg_ℤ r
    minus x r = omega (arith, ints)

    cancel : (b r : ℤ) → (b +ℤ r) +ℤ neg_ℤ r ≡ b
    cancel b r = omega (arith, ints)

first_row_is_first : (t lane : ℕ) → IsLaneWidth t → lane < 1024 / t → (row_at t lane 0 < 1024) × (is_later t (row_at t lane 0) ≡ false)
first_row_is_first t lane width h =
    let there = lane_of-row_at t lane 0 width h (positive_width t width) in
    (there.0, ap (λ m. not (m == 0)) there.2)

bases_are_firsts : (c : DeltaForm) → IsLaneWidth c.lane_width → length c.bases ≡ 1024 / c.lane_width → AreInRange c.lane_width c.bases → ((n : ℕ) → n < 1024 → is_later c.lane_width n ≡ false → get_or (numbers_of_delta c) n 0 ≡ 0) → c.bases ≡ bases_of c.lane_width c.least (delta_values c)
unfolding bases_of
bases_are_firsts c width count fit zeros =
    fill_by_all (λ lane. int_wrap (integer_width c.lane_width) (value_at (delta_values c) (row_at c.lane_width lane 0) -ℤ c.least)) c.bases (1024 / c.lane_width) (pos 0) count
    (λ lane h.
    let first = first_row_is_first c.lane_width lane width h in
    base_is c lane width h (column_fits c.lane_width c.bases lane (omega arith) fit) (zeros (row_at c.lane_width lane 0) first.0 first.1))

pub tight_is_least : (c : DeltaForm) (low high : ℕ) → IsLaneWidth c.lane_width → c.width ≤ c.lane_width → FitsSigned (integer_width c.lane_width) c.least → length c.bases ≡ 1024 / c.lane_width → AreInRange c.lane_width c.bases → c.words ≡ words_packing c.lane_width c.width (numbers_of_delta c) → ((n : ℕ) → n < 1024 → is_later c.lane_width n ≡ false → get_or (numbers_of_delta c) n 0 ≡ 0) → IsSpread (is_later c.lane_width) (λ n. get_or (numbers_of_delta c) n 0) low high → IsTightFrame c.lane_width c.width c.least low high → c ≡ least_delta c.lane_width (delta_values c)
tight_is_least c low high width within fits count bases_fit back zeros spread tight =
    let t = c.lane_width in
    let values = delta_values c in
    let framed = delta_is_framed c width within fits in
    let whole = tight_delta c low high spread tight in
    let least : c.least ≡ least_difference t values = sym (least_difference_is t values ∙ tight_least t (is_later t) (difference_at t values) c.least (λ n. get_or (numbers_of_delta c) n 0) 1 high framed whole) in
    let range : int_gap (least_difference t values) (greatest_difference t values) ≡ high = rw (least_difference_is t values, greatest_difference_is t values) (tight_range t (is_later t) (difference_at t values) c.least (λ n. get_or (numbers_of_delta c) n 0) 1 high framed whole) in
    let wide : c.width ≡ delta_width t values = tight.least ∙ sym (delta_width_is t values ∙ ap least_width range) in
    delta_from_parts c t values (numbers_of_delta c) refl back wide least (bases_are_firsts c width count bases_fit zeros) (numbers_are_gaps c high width within fits zeros whole)

-- ---- the least form is tight
least_of_form : (t : ℕ) (values : List ℤ) → (least_delta t values).least ≡ least_difference t values
unfolding least_delta
least_of_form t values = refl

width_of_form : (t : ℕ) (values : List ℤ) → (least_delta t values).width ≡ delta_width t values
unfolding least_delta
width_of_form t values = refl

words_of_form : (t : ℕ) (values : List ℤ) → (least_delta t values).words ≡ words_packing t (delta_width t values) (later_gaps t (least_difference t values) values)
unfolding least_delta
words_of_form t values = refl

-- its packed numbers are the gaps
least_numbers : (c : DeltaForm) → IsLaneWidth c.lane_width → c ≡ least_delta c.lane_width (delta_values c) → numbers_of_delta c ≡ later_gaps c.lane_width (least_difference c.lane_width (delta_values c)) (delta_values c)
unfolding numbers_of_delta
least_numbers c width is =
    let t = c.lane_width in
    let values = delta_values c in
    ap (λ (w : ℕ). unpacked t w c.words.numbers) (ap (λ (d : DeltaForm). d.width) is ∙ width_of_form t values)
    ∙ ap (λ (p : PackedWords). unpacked t (delta_width t values) p.numbers) (ap (λ (d : DeltaForm). d.words) is ∙ words_of_form t values)
    ∙ unpacked-packed t (delta_width t values) (later_gaps t (least_difference t values) values) width (length-later_gaps t (least_difference t values) values) (later_gaps_have_width t values width)

pub least_starts_at_zero : (c : DeltaForm) → IsLaneWidth c.lane_width → c ≡ least_delta c.lane_width (delta_values c) → (n : ℕ) → n < 1024 → is_later c.lane_width n ≡ false → get_or (numbers_of_delta c) n 0 ≡ 0
least_starts_at_zero c width is n h first =
    ap (λ xs. get_or xs n 0) (least_numbers c width is) ∙ first_gap c.lane_width (least_difference c.lane_width (delta_values c)) (delta_values c) n h (was_first (n % c.lane_width) first)
  where
    was_first : (m : ℕ) → not (m == 0) ≡ false → m ≡ 0
    was_first m e = grind (arith, nat_tests)

pub least_is_tight : (c : DeltaForm) (low high : ℕ) → IsLaneWidth c.lane_width → c.width ≤ c.lane_width → FitsSigned (integer_width c.lane_width) c.least → IsSpread (is_later c.lane_width) (λ n. get_or (numbers_of_delta c) n 0) low high → c ≡ least_delta c.lane_width (delta_values c) → IsTightFrame c.lane_width c.width c.least low high
least_is_tight c low high width within fits spread is =
    let t = c.lane_width in
    let values = delta_values c in
    let p = is_later t in
    let f = difference_at t values in
    let least : c.least ≡ least_difference t values = ap (λ (d : DeltaForm). d.least) is ∙ least_of_form t values in
    let wide : c.width ≡ delta_width t values = ap (λ (d : DeltaForm). d.width) is ∙ width_of_form t values in
    let whole = least_form_is_tight t p f c.least (λ n. get_or (numbers_of_delta c) n 0) 1 (delta_is_framed c width within fits) (least ∙ least_difference_is t values)
    (λ n h later. ap (λ xs. get_or xs n 0) (least_numbers c width is) ∙ later_gap t (least_difference t values) values n h (later_was t n later) ∙ ap (λ z. int_gap z (f n)) (least_difference_is t values)) in
    let range = int_gap (least_of p f 1) (greatest_of p f 1) in
    let top : high ≡ range = omega (arith, spread.high_bound whole.reached_at whole.reached_within whole.reached_passes, whole.reached, whole.bound spread.high_reached.0 spread.high_reached.1 spread.high_reached.2, spread.high_reached.3) in
    record {
      zero = omega (arith, spread.low_bound whole.zero_at whole.zero_within whole.zero_passes, whole.zero);
      least = wide ∙ delta_width_is t values ∙ ap least_width (ap (λ z. int_gap z (greatest_difference t values)) (least_difference_is t values) ∙ ap (int_gap (least_of p f 1)) (greatest_difference_is t values) ∙ sym top);
      stays = subst (λ (g : ℕ). c.least ≤ℤ int_wrap (integer_width t) (c.least +ℤ pos g)) (sym top) whole.stays;
    }

pub least_delta_is_narrowest : (c : DeltaForm) → IsLaneWidth c.lane_width → c.width ≤ c.lane_width → FitsSigned (integer_width c.lane_width) c.least → ((n : ℕ) → n < 1024 → is_later c.lane_width n ≡ true → c.least ≤ℤ difference_at c.lane_width (delta_values c) n) → (least_delta c.lane_width (delta_values c)).width ≤ c.width
least_delta_is_narrowest c lanes within fits above =
    let t = c.lane_width in
    let values = delta_values c in
    rw (width_of_form t values, delta_width_is t values, least_difference_is t values, greatest_difference_is t values)
    (no_smaller_width t (is_later t) (difference_at t values) c.least (λ n. get_or (numbers_of_delta c) n 0) 1 c.width (delta_is_framed c lanes within fits) above (λ n h _. number_below c n h) within)
