-- Where within the lanes one row differs from the row before and another does not, deltas have a width of 1 at least.
use Rattle.std.proofs.Common.{◌≡◌, ℕ, ◌+◌, ◌-◌, ◌/◌, ◌^◌, ◌<◌, ◌≤◌, ◌⊎◌, inl, inr, true, ℤ, pos, ◌+ℤ◌, ◌-ℤ◌, ◌≤ℤ◌, List, length, sym, ◌∙◌, ap, subst, arith}
use Rattle.std.specs.Int.{int_wrap, int_gap}
use Rattle.std.proofs.lemmas.Int.{ints, int_wrap_fits, int_wrap-add_same}
use Rattle.std.proofs.lemmas.Bool.{cases_lt, false≢true}
use Rattle.transpose_order.specs.Place.{IsLaneWidth}
use Rattle.transpose_order.specs.Mask.{rows_of}
use Rattle.transpose_order.specs.MaskWords.{has-rows_of}
use Rattle.bit_interleave.specs.Arithmetic.{integer_width}
use Rattle.bit_interleave.specs.Range.{AreInRange, value_at}
use Rattle.bit_interleave.proofs.GapLemmas.{gap_back}
use Rattle.bit_interleave.proofs.LeastWidthLemmas.{least_width-holds}
use Rattle.frame_delta.specs.Delta.{is_later, difference_at, least_difference, greatest_difference, delta_width, delta_bytes, least_delta}
use Rattle.frame_delta.proofs.DeltaLemmas.{row_one_is_later, least_difference_is, greatest_difference_is, difference_fits, least_difference_below, least_difference_not_above, delta_width_is}
use Rattle.frame_delta.proofs.DifferenceLemmas.{later_is_positive}
use Rattle.frame_delta.proofs.FrameLemmas.{column_fits}
use Rattle.frame_delta.proofs.FramedLemmas.{least_of, greatest_of, greatest_is_high, range_in_lane, below_word}
use Rattle.run_dictionary.specs.Runs.{changes_at}
use Rattle.segment_core.specs.LaterRows.{IsMixedWithin}
use Rattle.segment_core.proofs.ChosenLemmas.{no_change, is_no_change}

-- ---- a difference that is none
equal_rows : (t : ℕ) (values : List ℤ) (n : ℕ) → value_at values n ≡ value_at values (n - 1) → difference_at t values n ≡ int_wrap (integer_width t) (pos 0)
unfolding difference_at
equal_rows t values n e =
    let none : value_at values n -ℤ value_at values (n - 1) ≡ pos 0 = omega (arith, ints, e) in
    ap (int_wrap (integer_width t)) none

rows_are_equal : (t : ℕ) (values : List ℤ) (n : ℕ) → length values ≡ 1024 → AreInRange t values → n < 1024 → difference_at t values n ≡ int_wrap (integer_width t) (pos 0) → value_at values n ≡ value_at values (n - 1)
unfolding difference_at
rows_are_equal t values n long range l e =
    let a = value_at values n in
    let b = value_at values (n - 1) in
    let back : (a -ℤ b) +ℤ b ≡ a = omega (arith, ints) in
    let none : pos 0 +ℤ b ≡ b = omega (arith, ints) in
    sym (int_wrap_fits (integer_width t) a (column_fits t values n (omega (arith, long, l)) range))
    ∙ ap (int_wrap (integer_width t)) (sym back)
    ∙ int_wrap-add_same (integer_width t) (a -ℤ b) (pos 0) b e
    ∙ ap (int_wrap (integer_width t)) none
    ∙ int_wrap_fits (integer_width t) b (column_fits t values (n - 1) (omega (arith, long, l)) range)

-- ---- two differences that differ
below_greatest : (t : ℕ) (values : List ℤ) (n : ℕ) → n < 1024 → is_later t n ≡ true → difference_at t values n ≤ℤ greatest_difference t values
below_greatest t values n h later =
    rw (greatest_difference_is t values) ((greatest_is_high (is_later t) (difference_at t values) 1).each_bound n h later)

gap_is_a_word : (t : ℕ) (values : List ℤ) → IsLaneWidth t → int_gap (least_difference t values) (greatest_difference t values) < 2 ^ 64
gap_is_a_word t values width =
    rw (least_difference_is t values, greatest_difference_is t values)
    (below_word t (int_gap (least_of (is_later t) (difference_at t values) 1) (greatest_of (is_later t) (difference_at t values) 1)) width
    (range_in_lane t (is_later t) (difference_at t values) 1 width (row_one_is_later t width) (omega arith) (λ n h _. difference_fits t values n)))

-- at width 0 all later differences are one
one_difference : (t : ℕ) (values : List ℤ) (n : ℕ) → IsLaneWidth t → delta_width t values ≡ 0 → n < 1024 → is_later t n ≡ true → difference_at t values n ≡ least_difference t values
one_difference t values n width bare h later =
    let gap = int_gap (least_difference t values) (greatest_difference t values) in
    let none : gap < 2 ^ 0 = subst (λ (w : ℕ). gap < 2 ^ w) (sym (delta_width_is t values) ∙ bare) (least_width-holds gap (gap_is_a_word t values width)) in
    let zero : gap ≡ 0 = omega arith in
    let back = gap_back (least_difference t values) (greatest_difference t values) (least_difference_not_above t values) in
    let one : least_difference t values +ℤ pos 0 ≡ greatest_difference t values = sym (ap (λ x. least_difference t values +ℤ pos x) zero) ∙ back in
    omega (arith, ints, one, least_difference_below t values n h later, below_greatest t values n h later)

pub deltas_have_a_bit : (t : ℕ) (values : List ℤ) → IsLaneWidth t → length values ≡ 1024 → AreInRange t values → IsMixedWithin t (rows_of (changes_at (value_at values))) → 1 ≤ delta_width t values
deltas_have_a_bit t values width long range mixed = by_width (cases_lt (delta_width t values) 1)
  where
    by_width : (delta_width t values < 1) ⊎ (1 ≤ delta_width t values) → 1 ≤ delta_width t values
    by_width (inr some) = some
    by_width (inl none) =
        let bare : delta_width t values ≡ 0 = omega arith in
        let (n, l, later, starts) = mixed.had in
        let (m, k, also, repeats) = mixed.lacked in
        let same : value_at values m ≡ value_at values (m - 1) = no_change values m (later_is_positive t m width also) (sym (has-rows_of (changes_at (value_at values)) m k) ∙ repeats) in
        let zero : difference_at t values n ≡ int_wrap (integer_width t) (pos 0) = one_difference t values n width bare l later ∙ sym (one_difference t values m width bare k also) ∙ equal_rows t values m same in
        let still = is_no_change values n (cases_lt 0 n) (λ _. rows_are_equal t values n long range l zero) in
        absurd (false≢true (sym still ∙ sym (has-rows_of (changes_at (value_at values)) n l) ∙ starts))

-- so their payload has as many bytes as with one bit at least
pub bytes_with_a_bit : (t : ℕ) (values : List ℤ) (bytes : ℕ) → 1 ≤ delta_width t values → bytes < t / 8 + 256 → bytes < delta_bytes (least_delta t values)
unfolding least_delta
bytes_with_a_bit t values bytes some less = omega (arith, some, less)
