-- Spans over the places so far, and what the whole span says of the least form's bytes.
use Rattle.std.proofs.Common.{◌≡◌, ◌≢◌, ℕ, ◌+◌, ◌-◌, ◌*◌, ◌/◌, ◌%◌, ◌^◌, ◌<◌, ◌≤◌, ◌⊎◌, inl, inr, ℤ, pos, neg_ℤ, ◌+ℤ◌, ◌-ℤ◌, true, false, nat_lt, IsTrue, min, max, List, get_or, bit_and, refl, sym, ap, ◌∙◌, subst, arith}
use Rattle.std.specs.Int.{int_wrap, int_gap}
use Rattle.std.specs.Int.RustNames.{FitsSigned}
use Rattle.std.proofs.lemmas.Bool.{cases_lt, false≢true}
use Rattle.std.proofs.lemmas.Bool.Decides.{nat_tests}
use Rattle.std.proofs.lemmas.Nat.{and_mask}
use Rattle.std.proofs.lemmas.Int.{ints, int_wrap-add_left, int_wrap-sub_right, SFits-int_wrap}
use Rattle.transpose_order.specs.Place.{IsLaneWidth, lane_of}
use Rattle.transpose_order.proofs.WidthLemmas.{at_widths}
use Rattle.bit_interleave.specs.Arithmetic.{integer_width, least_width}
use Rattle.bit_interleave.specs.Places.{by_place}
use Rattle.bit_interleave.specs.Range.{value_at}
use Rattle.frame_delta.specs.Extremes.{at_top, IsSpread}
use Rattle.frame_delta.specs.Frame.{AreAbove, greatest_value, frame_width, least_frame, frame_bytes}
use Rattle.frame_delta.specs.Delta.{is_later, difference_at, number_difference, greatest_difference, delta_width, least_delta, delta_bytes}
use Rattle.frame_delta.proofs.FramedLemmas.{least_of, greatest_of}
use Rattle.frame_delta.proofs.FrameLemmas.{least_value_is, greatest_value_is, frame_width_is}
use Rattle.frame_delta.proofs.DeltaLemmas.{later_is, later_was, first_is, row_one_is_later, difference_fits, least_difference_is, greatest_difference_is, delta_width_is}
use Rattle.frame_delta.proofs.SpanLemmas.{IsSpan, IsLaneSpan, AreSome, span_of_place, span_with_place, span_of_same, span_of_equal, width_of_some, width_of_all}

-- ---- places
pub number_at_place : (numbers : List ℕ) (place i : ℕ) → place < 64 → i < 16 → get_or numbers (16 * place + i) 0 ≡ by_place numbers (64 * i + place)
number_at_place numbers place i h k =
    let e : 16 * place + i ≡ 16 * ((64 * i + place) % 64) + (64 * i + place) / 64 = omega (arith, h, k) in
    ap (λ q. get_or numbers q 0) e

-- a mask of a place's step
pub step_of_mask : (t place : ℕ) → IsLaneWidth t → bit_and place (t - 1) ≡ place % t
step_of_mask t place width =
    at_widths (λ t. bit_and place (t - 1) ≡ place % t) (and_mask place 3) (and_mask place 4) (and_mask place 5) (and_mask place 6) t width

-- a row's step is its place's
place_step : (t n : ℕ) → IsLaneWidth t → n % 64 % t ≡ n % t
place_step t n width =
    at_widths (λ t. n % 64 % t ≡ n % t) (omega arith) (omega arith) (omega arith) (omega arith) t width

row_at_place : (place i : ℕ) → place < 64 → (64 * i + place) % 64 ≡ place
row_at_place place i h = omega (arith, h)

later_at_place : (t place i : ℕ) → IsLaneWidth t → place < 64 → place % t ≢ 0 → is_later t (64 * i + place) ≡ true
later_at_place t place i width h some =
    later_is t (64 * i + place) (λ e. some (sym (ap (λ p. p % t) (row_at_place place i h)) ∙ place_step t (64 * i + place) width ∙ e))

not_at_place : (t place n : ℕ) → IsLaneWidth t → place % t ≡ 0 → is_later t n ≡ true → n % 64 ≢ place
not_at_place t place n width none later e =
    later_was t n later (sym (place_step t n width) ∙ ap (λ p. p % t) e ∙ none)

pub first_at_place : (t place i : ℕ) → IsLaneWidth t → place < 64 → place % t ≡ 0 → is_later t (64 * i + place) ≡ false
first_at_place t place i width h none =
    first_is t (64 * i + place) (sym (place_step t (64 * i + place) width) ∙ ap (λ p. p % t) (row_at_place place i h) ∙ none)

pub step_of_place : (t place n : ℕ) → IsLaneWidth t → n % 64 ≡ place → n % t ≡ place % t
step_of_place t place n width e = sym (place_step t n width) ∙ ap (λ p. p % t) e

-- the first row of 64 is the first of its lane
pub some_place : (t n : ℕ) → IsLaneWidth t → n % t ≢ 0 → n % 64 ≢ 0
some_place t n width =
    at_widths (λ t. n % t ≢ 0 → n % 64 ≢ 0) (λ some e. some (omega (arith, e))) (λ some e. some (omega (arith, e))) (λ some e. some (omega (arith, e))) (λ some e. some (omega (arith, e))) t width

-- the lanes of a place are one after another
pub lane_of_place : (t place i : ℕ) → IsLaneWidth t → place < 64 → i < 16 → lane_of t (64 * i + place) ≡ lane_of t place + i
lane_of_place t place i width =
    at_widths (λ t. place < 64 → i < 16 → lane_of t (64 * i + place) ≡ lane_of t place + i) (λ h k. omega (arith, h, k)) (λ h k. omega (arith, h, k)) (λ h k. omega (arith, h, k)) (λ h k. omega (arith, h, k)) t width

pub lanes_of_place : (t place : ℕ) → IsLaneWidth t → place < 64 → lane_of t place + 16 ≤ 1024 / t
lanes_of_place t place width =
    at_widths (λ t. place < 64 → lane_of t place + 16 ≤ 1024 / t) (λ h. omega (arith, h)) (λ h. omega (arith, h)) (λ h. omega (arith, h)) (λ h. omega (arith, h)) t width

pub lanes_below : (t : ℕ) → IsLaneWidth t → 1024 / t < 1024
lanes_below t width = at_widths (λ t. 1024 / t < 1024) (omega arith) (omega arith) (omega arith) (omega arith) t width

-- a row of the places so far, or of this one
pub before_or_here : (P : Type 0) (n place : ℕ) → n % 64 < place + 1 → (n % 64 < place → P) → (n % 64 ≡ place → P) → P
before_or_here P n place near before here = by_case (cases_lt (n % 64) place)
  where
    by_case : (n % 64 < place) ⊎ (place ≤ n % 64) → P
    by_case (inl less) = before less
    by_case (inr more) = here (omega (arith, near, more))

-- ---- later rows of the places so far
abbrev pub LaterBefore : ℕ → ℕ → ℕ → Type 0
LaterBefore t k n = (n % 64 < k) × (is_later t n ≡ true)

one_is_later : (t : ℕ) → IsLaneWidth t → 1 % t ≢ 0
one_is_later t width =
    at_widths (λ t. 1 % t ≢ 0) (λ e. absurd (omega (arith, e))) (λ e. absurd (omega (arith, e))) (λ e. absurd (omega (arith, e))) (λ e. absurd (omega (arith, e))) t width

pub later_span_starts : (t : ℕ) (g : ℕ → ℕ) (lanes least greatest : List ℕ) → IsLaneWidth t → ((i : ℕ) → i < 16 → get_or lanes i 0 ≡ g (64 * i + 1)) → ((i : ℕ) → i < 16 → get_or least i 0 ≡ get_or lanes i 0) → ((i : ℕ) → i < 16 → get_or greatest i 0 ≡ get_or lanes i 0) → IsLaneSpan (LaterBefore t 2) g least greatest
later_span_starts t g lanes least greatest width lane low high =
    span_of_place (LaterBefore t 2) g 1 lanes least greatest (omega arith) lane low high
    (λ i h. (omega (arith, row_at_place 1 i (omega arith)), later_at_place t 1 i width (omega arith) (one_is_later t width)))
    (λ n h p. let some : n % 64 ≢ 0 = not_at_place t 0 n width (zero_step t width) p.1 in omega (arith, p.0, some))
  where
    zero_step : (t : ℕ) → IsLaneWidth t → 0 % t ≡ 0
    zero_step t width = at_widths (λ t. 0 % t ≡ 0) refl refl refl refl t width

pub later_span_goes_on : (t place : ℕ) (g : ℕ → ℕ) (lanes least greatest lower higher : List ℕ) → IsLaneWidth t → place < 64 → place % t ≢ 0 → IsLaneSpan (LaterBefore t place) g least greatest → ((i : ℕ) → i < 16 → get_or lanes i 0 ≡ g (64 * i + place)) → ((i : ℕ) → i < 16 → get_or lower i 0 ≡ min (get_or least i 0) (get_or lanes i 0)) → ((i : ℕ) → i < 16 → get_or higher i 0 ≡ max (get_or greatest i 0) (get_or lanes i 0)) → IsLaneSpan (LaterBefore t (place + 1)) g lower higher
later_span_goes_on t place g lanes least greatest lower higher width near some span lane low high =
    span_with_place (LaterBefore t place) (LaterBefore t (place + 1)) g place lanes least greatest lower higher near span lane low high
    (λ n h p. (omega (arith, p.0), p.1))
    (λ i h. (omega (arith, row_at_place place i near), later_at_place t place i width near some))
    (λ n h q. or_here n q (cases_lt (n % 64) place))
  where
    or_here : (n : ℕ) → LaterBefore t (place + 1) n → (n % 64 < place) ⊎ (place ≤ n % 64) → LaterBefore t place n ⊎ (n % 64 ≡ place)
    or_here n q (inl before) = inl (before, q.1)
    or_here n q (inr here) = inr (omega (arith, q.0, here))

pub later_span_skips : (t place : ℕ) (g : ℕ → ℕ) (least greatest : List ℕ) → IsLaneWidth t → place % t ≡ 0 → IsLaneSpan (LaterBefore t place) g least greatest → IsLaneSpan (LaterBefore t (place + 1)) g least greatest
later_span_skips t place g least greatest width none span =
    span_of_same (LaterBefore t place) (LaterBefore t (place + 1)) g least greatest
    (λ n h p. (omega (arith, p.0), p.1))
    (λ n h q. let other = not_at_place t place n width none q.1 in (omega (arith, q.0, other), q.1))
    span

-- at the end, all later rows
pub spread_of_later : (t : ℕ) (g : ℕ → ℕ) (low high : ℕ) → IsSpan (LaterBefore t 64) g low high → IsSpread (is_later t) g low high
spread_of_later t g low high span = record {
  low_bound = λ n h p. span.low_bound n h (omega arith, p);
  high_bound = λ n h p. span.high_bound n h (omega arith, p);
  low_reached = (span.low_at, span.low_within, span.low_passes.1, span.low_reached);
  high_reached = (span.high_at, span.high_within, span.high_passes.1, span.high_reached);
}

-- ---- all rows of the places so far
pub span_starts : (g : ℕ → ℕ) (lanes least greatest : List ℕ) → ((i : ℕ) → i < 16 → get_or lanes i 0 ≡ g (64 * i + 0)) → ((i : ℕ) → i < 16 → get_or least i 0 ≡ get_or lanes i 0) → ((i : ℕ) → i < 16 → get_or greatest i 0 ≡ get_or lanes i 0) → IsLaneSpan (λ n. n % 64 < 1) g least greatest
span_starts g lanes least greatest lane low high =
    span_of_place (λ n. n % 64 < 1) g 0 lanes least greatest (omega arith) lane low high (λ i h. omega arith) (λ n h p. omega (arith, p))

pub span_goes_on : (place : ℕ) (g : ℕ → ℕ) (lanes least greatest lower higher : List ℕ) → place < 64 → IsLaneSpan (λ n. n % 64 < place) g least greatest → ((i : ℕ) → i < 16 → get_or lanes i 0 ≡ g (64 * i + place)) → ((i : ℕ) → i < 16 → get_or lower i 0 ≡ min (get_or least i 0) (get_or lanes i 0)) → ((i : ℕ) → i < 16 → get_or higher i 0 ≡ max (get_or greatest i 0) (get_or lanes i 0)) → IsLaneSpan (λ n. n % 64 < place + 1) g lower higher
span_goes_on place g lanes least greatest lower higher near span lane low high =
    span_with_place (λ n. n % 64 < place) (λ n. n % 64 < place + 1) g place lanes least greatest lower higher near span lane low high
    (λ n h p. omega (arith, p))
    (λ i h. omega (arith, row_at_place place i near))
    (λ n h q. or_here n q (cases_lt (n % 64) place))
  where
    or_here : (n : ℕ) → n % 64 < place + 1 → (n % 64 < place) ⊎ (place ≤ n % 64) → (n % 64 < place) ⊎ (n % 64 ≡ place)
    or_here n q (inl before) = inl before
    or_here n q (inr here) = inr (omega (arith, q, here))

-- ---- the least delta's bytes
-- what is added to all values is in no difference
difference_of_numbers : (t : ℕ) (r : ℤ) (numbers : List ℕ) (values : List ℤ) (n : ℕ) → AreAbove t r numbers values → n < 1024 → number_difference t numbers n ≡ difference_at t values n
unfolding number_difference difference_at
difference_of_numbers t r numbers values n above h =
    let x = pos (by_place numbers n) in
    let y = pos (by_place numbers (n - 1)) in
    let w = integer_width t in
    let as_sum : int_wrap w (r +ℤ x) -ℤ (r +ℤ y) ≡ int_wrap w (r +ℤ x) +ℤ neg_ℤ (r +ℤ y) = omega (arith, ints) in
    let rest : (r +ℤ x) +ℤ neg_ℤ (r +ℤ y) ≡ x -ℤ y = omega (arith, ints) in
    sym (ap (λ z. int_wrap w (z -ℤ value_at values (n - 1))) (above n h)
    ∙ ap (λ z. int_wrap w (int_wrap w (r +ℤ x) -ℤ z)) (above (n - 1) (omega (arith, h)))
    ∙ int_wrap-sub_right w (int_wrap w (r +ℤ x)) (r +ℤ y)
    ∙ ap (int_wrap w) as_sum
    ∙ int_wrap-add_left w (r +ℤ x) (neg_ℤ (r +ℤ y))
    ∙ ap (int_wrap w) rest)

span_of_differences : (t : ℕ) (r : ℤ) (numbers : List ℕ) (values : List ℤ) (P : ℕ → Type 0) (low high : ℕ) → AreAbove t r numbers values → IsSpan P (λ n. at_top t (number_difference t numbers n)) low high → IsSpan P (λ n. at_top t (difference_at t values n)) low high
span_of_differences t r numbers values P low high above span =
    span_of_equal P (λ n. at_top t (number_difference t numbers n)) (λ n. at_top t (difference_at t values n)) low high
    (λ n h. ap (at_top t) (difference_of_numbers t r numbers values n above h)) span

some_differences : (t k : ℕ) (values : List ℤ) → IsLaneWidth t → AreSome t (is_later t) (difference_at t values) 1 (LaterBefore t k)
some_differences t k values width = record {
  width = width;
  passes = row_one_is_later t width;
  within = omega arith;
  fits = λ n h _. difference_fits t values n;
  some = λ n h p. p.1;
}

pub delta_width_is_range : (t : ℕ) (values : List ℤ) → delta_width t values ≡ least_width (int_gap (least_of (is_later t) (difference_at t values) 1) (greatest_of (is_later t) (difference_at t values) 1))
delta_width_is_range t values =
    delta_width_is t values ∙ ap (λ z. least_width (int_gap z (greatest_difference t values))) (least_difference_is t values) ∙ ap (λ z. least_width (int_gap (least_of (is_later t) (difference_at t values) 1) z)) (greatest_difference_is t values)

pub delta_width_of_some : (t k : ℕ) (r : ℤ) (numbers : List ℕ) (values : List ℤ) (low high : ℕ) → IsLaneWidth t → AreAbove t r numbers values → IsSpan (LaterBefore t k) (λ n. at_top t (number_difference t numbers n)) low high → least_width ((high - low) / 2 ^ (64 - t)) ≤ delta_width t values
delta_width_of_some t k r numbers values low high width above span =
    omega (arith, delta_width_is_range t values, width_of_some t (is_later t) (difference_at t values) 1 (LaterBefore t k) low high (some_differences t k values width) (span_of_differences t r numbers values (LaterBefore t k) low high above span))

pub delta_width_of_all : (t : ℕ) (r : ℤ) (numbers : List ℕ) (values : List ℤ) (low high : ℕ) → IsLaneWidth t → AreAbove t r numbers values → IsSpan (LaterBefore t 64) (λ n. at_top t (number_difference t numbers n)) low high → least_width ((high - low) / 2 ^ (64 - t)) ≡ delta_width t values
delta_width_of_all t r numbers values low high width above span =
    width_of_all t (is_later t) (difference_at t values) 1 (LaterBefore t 64) low high (some_differences t 64 values width) (λ n h p. (omega arith, p)) (span_of_differences t r numbers values (LaterBefore t 64) low high above span)
    ∙ sym (delta_width_is_range t values)

pub bytes_of_least_delta : (t : ℕ) (values : List ℤ) → delta_bytes (least_delta t values) ≡ t / 8 + 128 + 128 * delta_width t values
unfolding least_delta
bytes_of_least_delta t values = refl

-- ---- the least frame's bytes
span_of_values : (t : ℕ) (numbers : List ℕ) (values : List ℤ) (P : ℕ → Type 0) (low high : ℕ) → AreAbove t (pos 0) numbers values → IsSpan P (λ n. at_top t (int_wrap (integer_width t) (pos (by_place numbers n)))) low high → IsSpan P (λ n. at_top t (value_at values n)) low high
span_of_values t numbers values P low high above span =
    span_of_equal P (λ n. at_top t (int_wrap (integer_width t) (pos (by_place numbers n)))) (λ n. at_top t (value_at values n)) low high
    (λ n h. let none : pos (by_place numbers n) ≡ pos 0 +ℤ pos (by_place numbers n) = omega (arith, ints) in ap (λ z. at_top t (int_wrap (integer_width t) z)) none ∙ ap (at_top t) (sym (above n h))) span

some_values : (t k : ℕ) (numbers : List ℕ) (values : List ℤ) → IsLaneWidth t → AreAbove t (pos 0) numbers values → AreSome t (λ _. true) (value_at values) 0 (λ n. n % 64 < k)
some_values t k numbers values width above = record {
  width = width;
  passes = refl;
  within = omega arith;
  fits = λ n h _. subst (λ (z : ℤ). FitsSigned (integer_width t) z) (sym (above n h)) (SFits-int_wrap (integer_width t) (pos 0 +ℤ pos (by_place numbers n)));
  some = λ n h p. refl;
}

frame_width_is_range : (values : List ℤ) → frame_width values ≡ least_width (int_gap (least_of (λ _. true) (value_at values) 0) (greatest_of (λ _. true) (value_at values) 0))
frame_width_is_range values =
    frame_width_is values ∙ ap (λ z. least_width (int_gap z (greatest_value values))) (least_value_is values) ∙ ap (λ z. least_width (int_gap (least_of (λ _. true) (value_at values) 0) z)) (greatest_value_is values)

pub frame_width_of_some : (t k : ℕ) (numbers : List ℕ) (values : List ℤ) (low high : ℕ) → IsLaneWidth t → AreAbove t (pos 0) numbers values → IsSpan (λ n. n % 64 < k) (λ n. at_top t (int_wrap (integer_width t) (pos (by_place numbers n)))) low high → least_width ((high - low) / 2 ^ (64 - t)) ≤ frame_width values
frame_width_of_some t k numbers values low high width above span =
    omega (arith, frame_width_is_range values, width_of_some t (λ _. true) (value_at values) 0 (λ n. n % 64 < k) low high (some_values t k numbers values width above) (span_of_values t numbers values (λ n. n % 64 < k) low high above span))

pub frame_width_of_all : (t : ℕ) (numbers : List ℕ) (values : List ℤ) (low high : ℕ) → IsLaneWidth t → AreAbove t (pos 0) numbers values → IsSpan (λ n. n % 64 < 64) (λ n. at_top t (int_wrap (integer_width t) (pos (by_place numbers n)))) low high → least_width ((high - low) / 2 ^ (64 - t)) ≡ frame_width values
frame_width_of_all t numbers values low high width above span =
    width_of_all t (λ _. true) (value_at values) 0 (λ n. n % 64 < 64) low high (some_values t 64 numbers values width above) (λ n h p. omega arith) (span_of_values t numbers values (λ n. n % 64 < 64) low high above span)
    ∙ sym (frame_width_is_range values)

pub bytes_of_least_frame : (t : ℕ) (values : List ℤ) → frame_bytes (least_frame t values) ≡ t / 8 + 128 * frame_width values
unfolding least_frame
bytes_of_least_frame t values = refl

-- ---- verdicts
pub not_below : (bytes at bound : ℕ) → bound ≤ at → at ≤ bytes → (IsTrue false → bytes < bound) × (bytes < bound → IsTrue false)
not_below bytes at bound h k = (λ no. absurd (false≢true no), λ less. absurd (omega (arith, h, k, less)))

pub below_as_told : (bytes at bound : ℕ) → at ≡ bytes → (IsTrue (nat_lt at bound) → bytes < bound) × (bytes < bound → IsTrue (nat_lt at bound))
below_as_told bytes at bound e =
    subst (λ (b : ℕ). (IsTrue (nat_lt at bound) → b < bound) × (b < bound → IsTrue (nat_lt at bound))) e (λ yes. grind (arith, nat_tests), λ less. grind (arith, nat_tests))
