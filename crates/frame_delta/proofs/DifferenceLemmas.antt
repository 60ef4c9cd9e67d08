-- The differences within the lanes have the extremes of the later differences, since at step 0 one of these stands.
use Rattle.std.proofs.Common.{◌≡◌, ℕ, ◌*◌, ◌/◌, ◌%◌, ◌<◌, ◌≤◌, ◌⊎◌, ℤ, pos, ◌≤ℤ◌, Bool, true, false, not, cond, ◌==◌, List, length, get_or, refl, inl, inr, sym, ap, ◌∙◌, subst, arith}
use Rattle.std.specs.Int.{int_gap}
use Rattle.std.specs.Int.RustNames.{FitsSigned}
use Rattle.std.proofs.lemmas.Bool.{cases_lt, false≢true}
use Rattle.std.proofs.lemmas.Bool.Decides.{nat_tests}
use Rattle.std.proofs.lemmas.List.Elements.{All-from_get_or}
use Rattle.std.proofs.lemmas.Int.{ints}
use Rattle.transpose_order.specs.Place.{IsLaneWidth}
use Rattle.transpose_order.specs.MaskWords.{length-rows_of, get_or-rows_of, rows_of-same}
use Rattle.transpose_order.proofs.WidthLemmas.{at_widths}
use Rattle.bit_interleave.specs.Arithmetic.{integer_width, least_width}
use Rattle.bit_interleave.specs.Range.{AreInRange, value_at}
use Rattle.frame_delta.specs.Frame.{least_value, greatest_value, frame_width, gaps_above}
use Rattle.frame_delta.specs.Delta.{is_later, difference_at, differences_within, least_difference, greatest_difference, delta_width, later_gaps}
use Rattle.frame_delta.proofs.ExtremeLemmas.{least_among-unique, greatest_among-unique}
use Rattle.frame_delta.proofs.FramedLemmas.{least_of, greatest_of, least_is_low, greatest_is_high, least_is_at, greatest_is_at}
use Rattle.frame_delta.proofs.GapLemmas.{gap_of_self}
use Rattle.frame_delta.proofs.FrameLemmas.{least_value_is, greatest_value_is, frame_width_is, gaps_above_is, length-gaps_above}
use Rattle.frame_delta.proofs.DeltaLemmas.{row_zero_is_first, row_one_is_later, difference_fits, least_difference_below, least_difference_is, greatest_difference_is, delta_width_is}

-- ---- rows at step 0
was_first : (m : ℕ) → not (m == 0) ≡ false → m ≡ 0
was_first m e = grind (arith, nat_tests)

-- a row at step 0 is its lane's number times the lane width
pub first_row_of : (t n : ℕ) → IsLaneWidth t → n < 1024 → is_later t n ≡ false → (n / t < 1024 / t) × (t * (n / t) ≡ n)
first_row_of t n width h e =
    at_widths (λ t. n % t ≡ 0 → (n / t < 1024 / t) × (t * (n / t) ≡ n))
    (λ z. (omega arith, omega arith)) (λ z. (omega arith, omega arith)) (λ z. (omega arith, omega arith)) (λ z. (omega arith, omega arith)) t width (was_first (n % t) e)

pub row_is_first : (t lane : ℕ) → IsLaneWidth t → lane < 1024 / t → (t * lane < 1024) × (is_later t (t * lane) ≡ false)
row_is_first t lane width h =
    let z = at_widths (λ t. lane < 1024 / t → (t * lane < 1024) × (t * lane % t ≡ 0)) (λ k. (omega arith, omega arith)) (λ k. (omega arith, omega arith)) (λ k. (omega arith, omega arith)) (λ k. (omega arith, omega arith)) t width h in
    (z.0, ap (λ m. not (m == 0)) z.1)

pub later_is_positive : (t n : ℕ) → IsLaneWidth t → is_later t n ≡ true → 0 < n
later_is_positive t n width e = by_case (cases_lt 0 n)
  where
    by_case : (0 < n) ⊎ (n ≤ 0) → 0 < n
    by_case (inl h) = h
    by_case (inr h) =
        let none : n ≡ 0 = omega arith in
        absurd (false≢true (sym (row_zero_is_first t width) ∙ ap (is_later t) (sym none) ∙ e))

-- ---- the differences within the lanes
pub length-differences_within : (t : ℕ) (values : List ℤ) → length (differences_within t values) ≡ 1024
unfolding differences_within
length-differences_within t values = length-rows_of (λ n. difference_at t values (cond (is_later t n) n 1))

-- the row whose difference stands at row n
source : ℕ → ℕ → ℕ
source t n = cond (is_later t n) n 1

source_passes : (t n : ℕ) → IsLaneWidth t → n < 1024 → (source t n < 1024) × (is_later t (source t n) ≡ true)
unfolding source
source_passes t n width h = by_step (is_later t n) refl
  where
    by_step : (b : Bool) → is_later t n ≡ b → (cond b n 1 < 1024) × (is_later t (cond b n 1) ≡ true)
    by_step true e = (h, e)
    by_step false e = (omega arith, row_one_is_later t width)

at_source : (t : ℕ) (values : List ℤ) (n : ℕ) → n < 1024 → value_at (differences_within t values) n ≡ difference_at t values (source t n)
unfolding differences_within source
at_source t values n h = get_or-rows_of (λ k. difference_at t values (cond (is_later t k) k 1)) n (pos 0) h

at_later : (t : ℕ) (values : List ℤ) (n : ℕ) → n < 1024 → is_later t n ≡ true → value_at (differences_within t values) n ≡ difference_at t values n
unfolding source
at_later t values n h later = at_source t values n h ∙ ap (λ b. difference_at t values (cond b n 1)) later

-- the list with a difference at each row
pub differences_within_is : (t : ℕ) (values ds : List ℤ) → length ds ≡ 1024 → ((n : ℕ) → n < 1024 → is_later t n ≡ true → value_at ds n ≡ difference_at t values n) → ((n : ℕ) → n < 1024 → is_later t n ≡ false → value_at ds n ≡ difference_at t values 1) → ds ≡ differences_within t values
unfolding differences_within
differences_within_is t values ds long later first =
    rows_of-same (λ n. difference_at t values (cond (is_later t n) n 1)) ds (pos 0) long (λ n h. by_step n h (is_later t n) refl)
  where
    by_step : (n : ℕ) → n < 1024 → (b : Bool) → is_later t n ≡ b → value_at ds n ≡ difference_at t values (cond b n 1)
    by_step n h true e = later n h e
    by_step n h false e = first n h e

pub AreInRange-differences_within : (t : ℕ) (values : List ℤ) → AreInRange t (differences_within t values)
AreInRange-differences_within t values =
    All-from_get_or (λ v. FitsSigned (integer_width t) v) (differences_within t values) (pos 0)
    (λ n h. subst (λ (z : ℤ). FitsSigned (integer_width t) z) (sym (at_source t values n (omega (arith, length-differences_within t values)))) (difference_fits t values (source t n)))

pub least_value-differences_within : (t : ℕ) (values : List ℤ) → IsLaneWidth t → least_value (differences_within t values) ≡ least_difference t values
unfolding least_of
least_value-differences_within t values width =
    let ds = differences_within t values in
    let x = least_of (is_later t) (difference_at t values) 1 in
    let low = least_is_low (is_later t) (difference_at t values) 1 in
    let at = least_is_at (is_later t) (difference_at t values) 1 (row_one_is_later t width) (omega arith) in
    let bound : (n : ℕ) → n < 1024 → x ≤ℤ value_at ds n = λ n h. let s = source_passes t n width h in subst (λ (z : ℤ). x ≤ℤ z) (sym (at_source t values n h)) (low.each_bound (source t n) s.0 s.1) in
    least_value_is ds
    ∙ least_among-unique (λ _. true) (value_at ds) (value_at ds 0) 1024 x
    (record { first_bound = bound 0 (omega arith); each_bound = λ n h _. bound n h })
    (inr (at.place, at.within, refl, at.is ∙ sym (at_later t values at.place at.within at.passes)))
    ∙ sym (least_difference_is t values)

pub greatest_value-differences_within : (t : ℕ) (values : List ℤ) → IsLaneWidth t → greatest_value (differences_within t values) ≡ greatest_difference t values
unfolding greatest_of
greatest_value-differences_within t values width =
    let ds = differences_within t values in
    let x = greatest_of (is_later t) (difference_at t values) 1 in
    let high = greatest_is_high (is_later t) (difference_at t values) 1 in
    let at = greatest_is_at (is_later t) (difference_at t values) 1 (row_one_is_later t width) (omega arith) in
    let bound : (n : ℕ) → n < 1024 → value_at ds n ≤ℤ x = λ n h. let s = source_passes t n width h in subst (λ (z : ℤ). z ≤ℤ x) (sym (at_source t values n h)) (high.each_bound (source t n) s.0 s.1) in
    greatest_value_is ds
    ∙ greatest_among-unique (λ _. true) (value_at ds) (value_at ds 0) 1024 x
    (record { first_bound = bound 0 (omega arith); each_bound = λ n h _. bound n h })
    (inr (at.place, at.within, refl, at.is ∙ sym (at_later t values at.place at.within at.passes)))
    ∙ sym (greatest_difference_is t values)

pub frame_width-differences_within : (t : ℕ) (values : List ℤ) → IsLaneWidth t → frame_width (differences_within t values) ≡ delta_width t values
frame_width-differences_within t values width =
    frame_width_is (differences_within t values)
    ∙ ap (λ z. least_width (int_gap z (greatest_value (differences_within t values)))) (least_value-differences_within t values width)
    ∙ ap (λ z. least_width (int_gap (least_difference t values) z)) (greatest_value-differences_within t values width)
    ∙ sym (delta_width_is t values)

-- ---- the gaps, where the least difference stands at step 0
-- the later differences, and the least of them at step 0
pub record IsFilled (t : ℕ) (values filled : List ℤ) : Type 0 where
  pub later : (n : ℕ) → n < 1024 → is_later t n ≡ true → value_at filled n ≡ difference_at t values n
  pub first : (n : ℕ) → n < 1024 → is_later t n ≡ false → value_at filled n ≡ least_difference t values

pub is_filled : (t : ℕ) (values ds filled : List ℤ) (r : ℤ) → ds ≡ differences_within t values → r ≡ least_difference t values → ((n : ℕ) (other : ℤ) → n < 1024 → is_later t n ≡ false → get_or filled n other ≡ r) → ((n : ℕ) (other : ℤ) → is_later t n ≡ true → get_or filled n other ≡ get_or ds n other) → IsFilled t values filled
is_filled t values ds filled r differences least first later = record {
  later = λ n h e. later n (pos 0) e ∙ ap (λ xs. value_at xs n) differences ∙ at_later t values n h e;
  first = λ n h e. first n (pos 0) h e ∙ least;
}

pub gaps_of_filled : (t : ℕ) (values filled : List ℤ) → IsFilled t values filled → gaps_above (least_difference t values) filled ≡ later_gaps t (least_difference t values) values
unfolding later_gaps
gaps_of_filled t values filled is =
    let r = least_difference t values in
    rows_of-same (λ n. cond (n % t == 0) 0 (int_gap r (difference_at t values n))) (gaps_above r filled) 0 (length-gaps_above r filled)
    (λ n h. gaps_above_is r filled n 0 h ∙ by_step n h (n % t == 0) refl)
  where
    by_step : (n : ℕ) → n < 1024 → (b : Bool) → (n % t == 0) ≡ b → int_gap (least_difference t values) (value_at filled n) ≡ cond b 0 (int_gap (least_difference t values) (difference_at t values n))
    by_step n h true e = ap (int_gap (least_difference t values)) (is.first n h (ap not e)) ∙ gap_of_self (least_difference t values)
    by_step n h false e = ap (int_gap (least_difference t values)) (is.later n h (ap not e))

le_self : (z : ℤ) → z ≤ℤ z
le_self z = omega (arith, ints)

pub least_below_filled : (t : ℕ) (values filled : List ℤ) → IsFilled t values filled → (n : ℕ) → n < 1024 → least_difference t values ≤ℤ value_at filled n
least_below_filled t values filled is n h = by_step (is_later t n) refl
  where
    by_step : (b : Bool) → is_later t n ≡ b → least_difference t values ≤ℤ value_at filled n
    by_step true e = subst (λ (z : ℤ). least_difference t values ≤ℤ z) (sym (is.later n h e)) (least_difference_below t values n h e)
    by_step false e = subst (λ (z : ℤ). least_difference t values ≤ℤ z) (sym (is.first n h e)) (le_self (least_difference t values))
