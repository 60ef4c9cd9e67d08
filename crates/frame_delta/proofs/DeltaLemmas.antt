-- Deltas are a frame over the later differences, and a lane's sums give its values back.
use Rattle.std.proofs.Common.{◌≡◌, ◌≢◌, ℕ, zero, suc, ◌+◌, ◌-◌, ◌*◌, ◌/◌, ◌%◌, ◌^◌, ◌<◌, ◌≤◌, ◌⊎◌, inl, inr, ℤ, pos, ◌+ℤ◌, ◌-ℤ◌, ◌≤ℤ◌, Bool, true, false, not, cond, ◌==◌, List, length, get_or, refl, sym, ap, ◌∙◌, subst, arith, ne_eqb}
use Rattle.std.specs.Int.{w64, int_wrap, int_gap, cast_unsigned}
use Rattle.std.specs.Int.RustNames.{FitsSigned}
use Rattle.std.specs.List.{All}
use Rattle.std.proofs.lemmas.Bool.{cases_lt}
use Rattle.std.proofs.lemmas.Bool.Decides.{nat_tests}
use Rattle.std.proofs.lemmas.Nat.{pow_pos}
use Rattle.std.proofs.lemmas.List.Elements.{All-from_get_or}
use Rattle.std.proofs.lemmas.List.FromFn.{get_or-map-range_with_len, length-map-range_with_len}
use Rattle.std.proofs.lemmas.Int.{ints, int_wrap_fits, int_wrap-add_right, int_wrap-add_same, SFits-int_wrap}
use Rattle.transpose_order.specs.Place.{IsLaneWidth, lane_of, step_of, row_at, place_of}
use Rattle.transpose_order.specs.MaskWords.{length-rows_of, get_or-rows_of, rows_of-same}
use Rattle.transpose_order.proofs.WidthLemmas.{at_widths}
use Rattle.transpose_order.proofs.PlaceLemmas.{row_at-lane_of, lane_of-row_at}
use Rattle.bit_interleave.specs.Arithmetic.{integer_width, least_width}
use Rattle.bit_interleave.specs.Packing.{packed_value, packed}
use Rattle.bit_interleave.proofs.WordsLemmas.{All-packed}
use Rattle.bit_interleave.specs.PackedWords.{words_packing}
use Rattle.bit_interleave.proofs.ValueLemmas.{HasWidth-words_packing}
use Rattle.bit_interleave.proofs.WrapLemmas.{int_wrap-mod, int_wrap-bits}
use Rattle.bit_interleave.specs.Range.{AreInRange, value_at}
use Rattle.bit_interleave.proofs.GapLemmas.{gap_back}
use Rattle.frame_delta.specs.Delta.{DeltaForm, sum_to, delta_of, delta_at, delta_value, delta_values, is_later, difference_at, least_difference, greatest_difference, delta_width, later_gaps, bases_of, least_delta, IsDeltaForm, AreSums}
use Rattle.frame_delta.proofs.PieceRows.{row_of_piece}
use Rattle.frame_delta.proofs.FramedLemmas.{least_of, greatest_of, least_is_low, least_not_above, least_is_at, range_in_lane, width_in_lane, gap_has_width}
use Rattle.frame_delta.proofs.FrameLemmas.{column_fits, packed_back}

-- ---- later rows
pub later_is : (t n : ℕ) → n % t ≢ 0 → is_later t n ≡ true
later_is t n h = ap not (ne_eqb (n % t) 0 h)

pub later_was : (t n : ℕ) → is_later t n ≡ true → n % t ≢ 0
later_was t n h e = grind (arith, nat_tests)

pub first_is : (t n : ℕ) → n % t ≡ 0 → is_later t n ≡ false
first_is t n e = ap (λ m. not (m == 0)) e

pub row_one_is_later : (t : ℕ) → IsLaneWidth t → is_later t 1 ≡ true
row_one_is_later t width = at_widths (λ t. is_later t 1 ≡ true) refl refl refl refl t width

pub row_zero_is_first : (t : ℕ) → IsLaneWidth t → is_later t 0 ≡ false
row_zero_is_first t width = at_widths (λ t. is_later t 0 ≡ false) refl refl refl refl t width

-- ---- the range of the later differences
pub least_difference_is : (t : ℕ) (values : List ℤ) → least_difference t values ≡ least_of (is_later t) (difference_at t values) 1
unfolding least_difference least_of
least_difference_is t values = refl

pub greatest_difference_is : (t : ℕ) (values : List ℤ) → greatest_difference t values ≡ greatest_of (is_later t) (difference_at t values) 1
unfolding greatest_difference greatest_of
greatest_difference_is t values = refl

pub difference_fits : (t : ℕ) (values : List ℤ) (n : ℕ) → FitsSigned (integer_width t) (difference_at t values n)
unfolding difference_at
difference_fits t values n = SFits-int_wrap (integer_width t) (value_at values n -ℤ value_at values (n - 1))

pub least_difference_below : (t : ℕ) (values : List ℤ) (n : ℕ) → n < 1024 → is_later t n ≡ true → least_difference t values ≤ℤ difference_at t values n
least_difference_below t values n h later =
    rw (least_difference_is t values) ((least_is_low (is_later t) (difference_at t values) 1).each_bound n h later)

pub least_difference_not_above : (t : ℕ) (values : List ℤ) → least_difference t values ≤ℤ greatest_difference t values
least_difference_not_above t values =
    rw (least_difference_is t values, greatest_difference_is t values) (least_not_above (is_later t) (difference_at t values) 1)

pub least_difference_fits : (t : ℕ) (values : List ℤ) → IsLaneWidth t → FitsSigned (integer_width t) (least_difference t values)
least_difference_fits t values width =
    let at = least_is_at (is_later t) (difference_at t values) 1 (row_one_is_later t width) (omega arith) in
    subst (λ (z : ℤ). FitsSigned (integer_width t) z) (sym (least_difference_is t values ∙ at.is)) (difference_fits t values at.place)

range_of_differences : (t : ℕ) (values : List ℤ) → IsLaneWidth t → int_gap (least_of (is_later t) (difference_at t values) 1) (greatest_of (is_later t) (difference_at t values) 1) < 2 ^ t
range_of_differences t values width =
    range_in_lane t (is_later t) (difference_at t values) 1 width (row_one_is_later t width) (omega arith) (λ n h _. difference_fits t values n)

pub delta_width_is : (t : ℕ) (values : List ℤ) → delta_width t values ≡ least_width (int_gap (least_difference t values) (greatest_difference t values))
unfolding delta_width
delta_width_is t values = refl

pub delta_width_in_lane : (t : ℕ) (values : List ℤ) → IsLaneWidth t → delta_width t values ≤ t
delta_width_in_lane t values width =
    rw (delta_width_is t values, least_difference_is t values, greatest_difference_is t values)
    (width_in_lane t (int_gap (least_of (is_later t) (difference_at t values) 1) (greatest_of (is_later t) (difference_at t values) 1)) width (range_of_differences t values width))

-- ---- the packed gaps
pub length-later_gaps : (t : ℕ) (r : ℤ) (values : List ℤ) → length (later_gaps t r values) ≡ 1024
unfolding later_gaps
length-later_gaps t r values = length-rows_of (λ n. cond (n % t == 0) 0 (int_gap r (difference_at t values n)))

pub later_gaps_is : (t : ℕ) (r : ℤ) (values : List ℤ) (n : ℕ) → n < 1024 → get_or (later_gaps t r values) n 0 ≡ cond (n % t == 0) 0 (int_gap r (difference_at t values n))
unfolding later_gaps
later_gaps_is t r values n h = get_or-rows_of (λ k. cond (k % t == 0) 0 (int_gap r (difference_at t values k))) n 0 h

pub first_gap : (t : ℕ) (r : ℤ) (values : List ℤ) (n : ℕ) → n < 1024 → n % t ≡ 0 → get_or (later_gaps t r values) n 0 ≡ 0
first_gap t r values n h e =
    later_gaps_is t r values n h ∙ ap (λ m. cond (m == 0) 0 (int_gap r (difference_at t values n))) e

pub later_gap : (t : ℕ) (r : ℤ) (values : List ℤ) (n : ℕ) → n < 1024 → n % t ≢ 0 → get_or (later_gaps t r values) n 0 ≡ int_gap r (difference_at t values n)
later_gap t r values n h e =
    later_gaps_is t r values n h ∙ ap (λ b. cond b 0 (int_gap r (difference_at t values n))) (ne_eqb (n % t) 0 e)

pub later_gaps_have_width : (t : ℕ) (values : List ℤ) → IsLaneWidth t → All (λ v. v < 2 ^ delta_width t values) (later_gaps t (least_difference t values) values)
later_gaps_have_width t values width =
    All-from_get_or (λ v. v < 2 ^ delta_width t values) (later_gaps t (least_difference t values) values) 0
    (λ n h.
    let near : n < 1024 = omega (arith, length-later_gaps t (least_difference t values) values) in
    subst (λ (v : ℕ). v < 2 ^ delta_width t values) (sym (later_gaps_is t (least_difference t values) values n near)) (small n near (n % t == 0) refl))
  where
    small : (n : ℕ) → n < 1024 → (b : Bool) → (n % t == 0) ≡ b → cond b 0 (int_gap (least_difference t values) (difference_at t values n)) < 2 ^ delta_width t values
    small n near true e = pow_pos (delta_width t values)
    small n near false e =
        rw (delta_width_is t values, least_difference_is t values, greatest_difference_is t values)
        (gap_has_width t (is_later t) (difference_at t values) 1 n width (range_of_differences t values width) near (ap not e))

-- ---- bases
pub length-bases_of : (t : ℕ) (r : ℤ) (values : List ℤ) → length (bases_of t r values) ≡ 1024 / t
unfolding bases_of
length-bases_of t r values =
    length-map-range_with_len (λ lane. int_wrap (integer_width t) (value_at values (row_at t lane 0) -ℤ r)) 0 (1024 / t)

pub value_at-bases_of : (t : ℕ) (r : ℤ) (values : List ℤ) (lane : ℕ) → lane < 1024 / t → value_at (bases_of t r values) lane ≡ int_wrap (integer_width t) (value_at values (row_at t lane 0) -ℤ r)
unfolding bases_of
value_at-bases_of t r values lane h =
    get_or-map-range_with_len (λ l. int_wrap (integer_width t) (value_at values (row_at t l 0) -ℤ r)) 0 (1024 / t) lane lane (pos 0) h (omega arith)

pub bases_of_fit : (t : ℕ) (r : ℤ) (values : List ℤ) → AreInRange t (bases_of t r values)
bases_of_fit t r values =
    All-from_get_or (λ v. FitsSigned (integer_width t) v) (bases_of t r values) (pos 0)
    (λ n h. subst (λ (z : ℤ). FitsSigned (integer_width t) z) (sym (value_at-bases_of t r values n (omega (arith, length-bases_of t r values)))) (SFits-int_wrap (integer_width t) (value_at values (row_at t n 0) -ℤ r)))

-- ---- sums
pub sum_to-zero : (f : ℕ → ℤ) → sum_to 0 f ≡ pos 0
unfolding sum_to
sum_to-zero f = refl

pub sum_to-suc : (k : ℕ) (f : ℕ → ℤ) → sum_to (suc k) f ≡ sum_to k f +ℤ f k
unfolding sum_to
sum_to-suc k f = refl

pub regroup : (b s d : ℤ) → b +ℤ (s +ℤ d) ≡ (b +ℤ s) +ℤ d
regroup b s d = omega (arith, ints)

-- one more step, where nothing is known but what the sum so far wraps to
pub sum_wraps_on : (t : ℕ) (b v : ℤ) (k : ℕ) (f : ℕ → ℤ) → int_wrap (integer_width t) (b +ℤ sum_to k f) ≡ int_wrap (integer_width t) v → int_wrap (integer_width t) (b +ℤ sum_to (suc k) f) ≡ int_wrap (integer_width t) (v +ℤ f k)
sum_wraps_on t b v k f h =
    ap (λ z. int_wrap (integer_width t) (b +ℤ z)) (sum_to-suc k f) ∙ ap (int_wrap (integer_width t)) (regroup b (sum_to k f) (f k))
    ∙ int_wrap-add_same (integer_width t) (b +ℤ sum_to k f) v (f k) h

pub deltas_add_up : (form : DeltaForm) (lane step : ℕ) → (delta_at form lane 0 ≡ int_wrap (integer_width form.lane_width) (value_at form.bases lane +ℤ delta_of form lane 0)) × (delta_at form lane (suc step) ≡ int_wrap (integer_width form.lane_width) (delta_at form lane step +ℤ delta_of form lane (suc step)))
unfolding delta_at
deltas_add_up form lane step =
    let t = form.lane_width in
    let base = value_at form.bases lane in
    let f = delta_of form lane in
    let sum = base +ℤ sum_to (suc step) f in
    let start : base +ℤ sum_to 0 f ≡ base = ap (λ z. base +ℤ z) (sum_to-zero f) ∙ omega (arith, ints) in (
      sum_wraps_on t base base 0 f (ap (int_wrap (integer_width t)) start),
      sum_wraps_on t base (int_wrap (integer_width t) sum) (suc step) f (sym (int_wrap_fits (integer_width t) (int_wrap (integer_width t) sum) (SFits-int_wrap (integer_width t) sum))),
    )

-- ---- the least form decodes to its values
-- what the packed number of a lane and a step stands for
packed_at : (t : ℕ) (values : List ℤ) (lane step : ℕ) → IsLaneWidth t → lane < 1024 / t → step < t → packed_value t (delta_width t values) (packed t (delta_width t values) (later_gaps t (least_difference t values) values)) lane step ≡ get_or (later_gaps t (least_difference t values) values) (row_at t lane step) 0
packed_at t values lane step width h k =
    let there = lane_of-row_at t lane step width h k in
    sym (ap (λ l. packed_value t (delta_width t values) (packed t (delta_width t values) (later_gaps t (least_difference t values) values)) l (step_of t (row_at t lane step))) there.1 ∙ ap (packed_value t (delta_width t values) (packed t (delta_width t values) (later_gaps t (least_difference t values) values)) lane) there.2)
    ∙ packed_back t (delta_width t values) (later_gaps t (least_difference t values) values) (row_at t lane step) width (length-later_gaps t (least_difference t values) values) (later_gaps_have_width t values width) there.0

step_of_row : (t lane step : ℕ) → IsLaneWidth t → lane < 1024 / t → step < t → row_at t lane step % t ≡ step
step_of_row t lane step width h k = (lane_of-row_at t lane step width h k).2

next_row : (t lane step : ℕ) → row_at t lane (suc step) - 1 ≡ row_at t lane step
next_row t lane step = omega arith

back_to_first : (v r : ℤ) → (v -ℤ r) +ℤ (r +ℤ pos 0) ≡ v
back_to_first v r = omega (arith, ints)

on_from_before : (a b : ℤ) → a +ℤ (b -ℤ a) ≡ b
on_from_before a b = omega (arith, ints)

-- the sum through a step wraps to the value there
lane_sums : (t : ℕ) (values : List ℤ) (lane step : ℕ) → IsLaneWidth t → length values ≡ 1024 → lane < 1024 / t → step < t → int_wrap (integer_width t) (value_at (bases_of t (least_difference t values) values) lane +ℤ sum_to (suc step) (λ s. least_difference t values +ℤ pos (packed_value t (delta_width t values) (packed t (delta_width t values) (later_gaps t (least_difference t values) values)) lane s))) ≡ int_wrap (integer_width t) (value_at values (row_at t lane step))
unfolding difference_at
lane_sums t values lane zero width long h k =
    let r = least_difference t values in
    let g : ℕ → ℤ = λ s. r +ℤ pos (packed_value t (delta_width t values) (packed t (delta_width t values) (later_gaps t r values)) lane s) in
    let b = value_at (bases_of t r values) lane in
    let there = lane_of-row_at t lane 0 width h k in
    let none : packed_value t (delta_width t values) (packed t (delta_width t values) (later_gaps t r values)) lane 0 ≡ 0 = packed_at t values lane 0 width h k ∙ first_gap t r values (row_at t lane 0) there.0 (step_of_row t lane 0 width h k) in
    let plain : b +ℤ sum_to 0 g ≡ b = ap (λ z. b +ℤ z) (sum_to-zero g) ∙ omega (arith, ints) in
    sum_wraps_on t b (value_at values (row_at t lane 0) -ℤ r) 0 g
    (ap (int_wrap (integer_width t)) (plain ∙ value_at-bases_of t r values lane h) ∙ int_wrap_fits (integer_width t) (int_wrap (integer_width t) (value_at values (row_at t lane 0) -ℤ r)) (SFits-int_wrap (integer_width t) (value_at values (row_at t lane 0) -ℤ r)))
    ∙ ap (λ n. int_wrap (integer_width t) ((value_at values (row_at t lane 0) -ℤ r) +ℤ (r +ℤ pos n))) none
    ∙ ap (int_wrap (integer_width t)) (back_to_first (value_at values (row_at t lane 0)) r)
lane_sums t values lane (suc step) width long h k =
    let r = least_difference t values in
    let g : ℕ → ℤ = λ s. r +ℤ pos (packed_value t (delta_width t values) (packed t (delta_width t values) (later_gaps t r values)) lane s) in
    let b = value_at (bases_of t r values) lane in
    let n = row_at t lane (suc step) in
    let v = value_at values (row_at t lane step) in
    let there = lane_of-row_at t lane (suc step) width h k in
    let later : n % t ≢ 0 = λ e. absurd (omega (arith, step_of_row t lane (suc step) width h k, e)) in
    let gap = packed_at t values lane (suc step) width h k ∙ later_gap t r values n there.0 later in
    let d = gap_back r (difference_at t values n) (least_difference_below t values n there.0 (later_is t n later)) in
    sum_wraps_on t b v (suc step) g (lane_sums t values lane step width long h (omega arith))
    ∙ ap (λ x. int_wrap (integer_width t) (v +ℤ (r +ℤ pos x))) gap
    ∙ ap (λ z. int_wrap (integer_width t) (v +ℤ z)) (d ∙ difference_is t values n)
    ∙ int_wrap-add_right (integer_width t) v (value_at values n -ℤ value_at values (n - 1))
    ∙ ap (λ m. int_wrap (integer_width t) (v +ℤ (value_at values n -ℤ value_at values m))) (next_row t lane step)
    ∙ ap (int_wrap (integer_width t)) (on_from_before v (value_at values n))
  where
    difference_is : (t : ℕ) (values : List ℤ) (n : ℕ) → difference_at t values n ≡ int_wrap (integer_width t) (value_at values n -ℤ value_at values (n - 1))
    difference_is t values n = refl

delta_at-least_delta : (t : ℕ) (values : List ℤ) (n : ℕ) → IsLaneWidth t → length values ≡ 1024 → AreInRange t values → n < 1024 → delta_at (least_delta t values) (lane_of t n) (step_of t n) ≡ value_at values n
unfolding delta_at least_delta
delta_at-least_delta t values n width long fit h =
    let place = row_at-lane_of t n width h in
    lane_sums t values (lane_of t n) (step_of t n) width long place.0 place.1
    ∙ ap (λ m. int_wrap (integer_width t) (value_at values m)) place.2
    ∙ int_wrap_fits (integer_width t) (value_at values n) (column_fits t values n (omega arith) fit)

pub delta_values-least_delta : (t : ℕ) (values : List ℤ) → IsLaneWidth t → length values ≡ 1024 → AreInRange t values → delta_values (least_delta t values) ≡ values
unfolding delta_values delta_value least_delta
delta_values-least_delta t values width long fit =
    sym (rows_of-same (delta_value (least_delta t values)) values (pos 0) long (λ n h. sym (delta_at-least_delta t values n width long fit h)))

-- ---- the parts of the least form
pub least_delta_is_a_form : (t : ℕ) (values : List ℤ) → IsLaneWidth t → IsDeltaForm (least_delta t values)
unfolding least_delta
least_delta_is_a_form t values width =
    let r = least_difference t values in
    record {
      lane_width = width;
      words = refl;
      packed = HasWidth-words_packing t (delta_width t values) (later_gaps t r values) (delta_width_in_lane t values width);
      fit = All-packed t (delta_width t values) (later_gaps t r values);
      least = least_difference_fits t values width;
      base_count = length-bases_of t r values;
      bases = bases_of_fit t r values;
    }

-- a form with the parts of the least form is the least form
pub delta_from_parts : (form : DeltaForm) (t : ℕ) (values : List ℤ) (numbers : List ℕ) → form.lane_width ≡ t → form.words ≡ words_packing t form.width numbers → form.width ≡ delta_width t values → form.least ≡ least_difference t values → form.bases ≡ bases_of t form.least values → numbers ≡ later_gaps t form.least values → form ≡ least_delta t values
unfolding least_delta
delta_from_parts form t values numbers lanes packs wide least from gaps =
    let words : form.words ≡ words_packing t (delta_width t values) (later_gaps t (least_difference t values) values) =
    packs ∙ ap (λ w. words_packing t w numbers) wide ∙ ap (words_packing t (delta_width t values)) (gaps ∙ ap (λ r. later_gaps t r values) least) in
    let bases : form.bases ≡ bases_of t (least_difference t values) values = from ∙ ap (λ r. bases_of t r values) least in
    λ i. record { lane_width = lanes i; width = wide i; least = least i; bases = bases i; words = words i }

-- ---- decoding by steps
-- what the next sums wrap to
pub step_wraps : (t b l : ℕ) (z r : ℤ) → IsLaneWidth t → FitsSigned w64 r → int_wrap (integer_width t) (pos b) ≡ int_wrap (integer_width t) z → int_wrap (integer_width t) (pos (((b + cast_unsigned w64 r) % 2 ^ 64 + l) % 2 ^ 64)) ≡ int_wrap (integer_width t) (z +ℤ (r +ℤ pos l))
step_wraps t b l z r width fits h =
    let x = (b + cast_unsigned w64 r) % 2 ^ 64 in
    let turned : z +ℤ pos (cast_unsigned w64 r) ≡ pos (cast_unsigned w64 r) +ℤ z = omega (arith, ints) in
    let back : r +ℤ z ≡ z +ℤ r = omega (arith, ints) in
    let first : int_wrap (integer_width t) (pos x) ≡ int_wrap (integer_width t) (z +ℤ r) =
    int_wrap-mod t (b + cast_unsigned w64 r) width
    ∙ int_wrap-add_same (integer_width t) (pos b) z (pos (cast_unsigned w64 r)) h
    ∙ ap (int_wrap (integer_width t)) turned
    ∙ int_wrap-add_same (integer_width t) (pos (cast_unsigned w64 r)) r z (int_wrap-bits t r width fits)
    ∙ ap (int_wrap (integer_width t)) back in
    int_wrap-mod t (x + l) width
    ∙ int_wrap-add_same (integer_width t) (pos x) (z +ℤ r) (pos l) first
    ∙ ap (int_wrap (integer_width t)) (sym (regroup z r (pos l)))

-- the same with the sum so far
pub sums_step : (t b l k : ℕ) (base r : ℤ) (f : ℕ → ℤ) → IsLaneWidth t → FitsSigned w64 r → int_wrap (integer_width t) (pos b) ≡ int_wrap (integer_width t) (base +ℤ sum_to k f) → f k ≡ r +ℤ pos l → int_wrap (integer_width t) (pos (((b + cast_unsigned w64 r) % 2 ^ 64 + l) % 2 ^ 64)) ≡ int_wrap (integer_width t) (base +ℤ sum_to (suc k) f)
sums_step t b l k base r f width fits h e =
    step_wraps t b l (base +ℤ sum_to k f) r width fits h
    ∙ ap (λ d. int_wrap (integer_width t) ((base +ℤ sum_to k f) +ℤ d)) (sym e)
    ∙ ap (int_wrap (integer_width t)) (sym (regroup base (sum_to k f) (f k)))
    ∙ ap (λ z. int_wrap (integer_width t) (base +ℤ z)) (sym (sum_to-suc k f))

pub sums_start : (t : ℕ) (base : ℤ) (f : ℕ → ℤ) → IsLaneWidth t → FitsSigned w64 base → int_wrap (integer_width t) (pos (cast_unsigned w64 base)) ≡ int_wrap (integer_width t) (base +ℤ sum_to 0 f)
sums_start t base f width fits =
    let plain : base ≡ base +ℤ pos 0 = omega (arith, ints) in
    int_wrap-bits t base width fits ∙ ap (int_wrap (integer_width t)) plain ∙ ap (λ z. int_wrap (integer_width t) (base +ℤ z)) (sym (sum_to-zero f))

-- a step is the first or a later one
pub at_start_or_on : (s : ℕ) (P : Type 0) → (s ≡ 0 → P) → (s ≢ 0 → P) → P
at_start_or_on s P start on = by_case (cases_lt 0 s)
  where
    by_case : (0 < s) ⊎ (s ≤ 0) → P
    by_case (inl h) = on (λ e. omega arith)
    by_case (inr h) = start (omega arith)

-- the piece after one that doesn't end its lanes is at the next step of the same lanes
pub next_piece : (t q : ℕ) → IsLaneWidth t → (q + 1) % t ≢ 0 → ((q + 1) / t ≡ q / t) × ((q + 1) % t ≡ suc (q % t))
next_piece t q width =
    at_widths (λ t. (q + 1) % t ≢ 0 → ((q + 1) / t ≡ q / t) × ((q + 1) % t ≡ suc (q % t)))
    (λ h. (omega arith, omega arith)) (λ h. (omega arith, omega arith)) (λ h. (omega arith, omega arith)) (λ h. (omega arith, omega arith)) t width

-- the block after one that doesn't end its lanes is at the next four steps of the same lanes
pub next_block : (t block : ℕ) → IsLaneWidth t → 4 * (block + 1) % t ≢ 0 → (4 * (block + 1) / t ≡ 4 * block / t) × (4 * (block + 1) % t ≡ suc (4 * block % t + 3))
next_block t block width =
    at_widths (λ t. 4 * (block + 1) % t ≢ 0 → (4 * (block + 1) / t ≡ 4 * block / t) × (4 * (block + 1) % t ≡ suc (4 * block % t + 3)))
    (λ h. (omega arith, omega arith)) (λ h. (omega arith, omega arith)) (λ h. (omega arith, omega arith)) (λ h. (omega arith, omega arith)) t width

-- a piece's sixteen lanes are there
pub group_is_there : (t q : ℕ) → IsLaneWidth t → q < 64 → 16 * (q / t) + 16 ≤ 1024 / t
group_is_there t q width =
    at_widths (λ t. q < 64 → 16 * (q / t) + 16 ≤ 1024 / t) (λ h. omega arith) (λ h. omega arith) (λ h. omega arith) (λ h. omega arith) t width

-- ---- decoded values
pub length-delta_values : (c : DeltaForm) → length (delta_values c) ≡ 1024
unfolding delta_values
length-delta_values c = length-rows_of (delta_value c)

pub value_at-delta_values : (c : DeltaForm) (n : ℕ) → n < 1024 → value_at (delta_values c) n ≡ delta_value c n
unfolding delta_values
value_at-delta_values c n h = get_or-rows_of (delta_value c) n (pos 0) h

pub delta_value_fits : (c : DeltaForm) (n : ℕ) → FitsSigned (integer_width c.lane_width) (delta_value c n)
unfolding delta_value delta_at
delta_value_fits c n =
    SFits-int_wrap (integer_width c.lane_width) (value_at c.bases (lane_of c.lane_width n) +ℤ sum_to (suc (step_of c.lane_width n)) (λ s. c.least +ℤ pos (packed_value c.lane_width c.width c.words.numbers (lane_of c.lane_width n) s)))

pub AreInRange-delta_values : (c : DeltaForm) → AreInRange c.lane_width (delta_values c)
AreInRange-delta_values c =
    All-from_get_or (λ v. FitsSigned (integer_width c.lane_width) v) (delta_values c) (pos 0)
    (λ n h. subst (λ (z : ℤ). FitsSigned (integer_width c.lane_width) z) (sym (value_at-delta_values c n (omega (arith, length-delta_values c)))) (delta_value_fits c n))

pub sums_give_their_rows : (form : DeltaForm) (q : ℕ) (sums : List ℕ) → IsLaneWidth form.lane_width → q < 64 → AreSums form q sums → (i : ℕ) → i < 16 → int_wrap (integer_width form.lane_width) (pos (get_or sums i 0)) ≡ delta_value form (64 * i + place_of form.lane_width q)
unfolding delta_value
sums_give_their_rows form q sums width h are i near =
    let t = form.lane_width in
    let row = row_of_piece t q i width h near in
    are.lanes i near
    ∙ ap (λ l. delta_at form l (q % t)) (sym row.1)
    ∙ ap (delta_at form (lane_of t (64 * i + place_of t q))) (sym row.2)
