-- Frame of reference is a frame over all rows.
use Rattle.std.proofs.Common.{◌≡◌, ℕ, ◌^◌, ◌<◌, ◌≤◌, ℤ, pos, ◌+ℤ◌, ◌≤ℤ◌, true, List, length, get_or, refl, sym, ap, ◌∙◌, subst, arith}
use Rattle.std.specs.Int.{int_wrap, int_gap}
use Rattle.std.specs.Int.RustNames.{FitsSigned}
use Rattle.std.specs.List.{All}
use Rattle.std.proofs.lemmas.List.Elements.{All-get_or, All-from_get_or}
use Rattle.std.proofs.lemmas.Int.{int_wrap_fits}
use Rattle.transpose_order.specs.Place.{IsLaneWidth, lane_of, step_of}
use Rattle.transpose_order.specs.MaskWords.{length-rows_of, get_or-rows_of, rows_of-same}
use Rattle.bit_interleave.specs.Arithmetic.{integer_width, least_width}
use Rattle.bit_interleave.specs.Packing.{packed_value, packed}
use Rattle.bit_interleave.proofs.WordsLemmas.{All-packed}
use Rattle.bit_interleave.proofs.RoundTrip.{unpacked-packed}
use Rattle.bit_interleave.specs.PackedWords.{words_packing}
use Rattle.bit_interleave.proofs.ValueLemmas.{get_or-unpacked, HasWidth-words_packing}
use Rattle.bit_interleave.specs.Range.{AreInRange, value_at}
use Rattle.bit_interleave.proofs.GapLemmas.{gap_back}
use Rattle.frame_delta.specs.Frame.{FrameForm, frame_value, frame_values, least_value, greatest_value, frame_width, gaps_above, least_frame, IsFrameForm}
use Rattle.frame_delta.proofs.FramedLemmas.{least_of, greatest_of, least_is_low, range_in_lane, width_in_lane, gap_has_width, least_not_above, least_is_at}

pub least_value_is : (values : List ℤ) → least_value values ≡ least_of (λ _. true) (value_at values) 0
unfolding least_value least_of
least_value_is values = refl

pub greatest_value_is : (values : List ℤ) → greatest_value values ≡ greatest_of (λ _. true) (value_at values) 0
unfolding greatest_value greatest_of
greatest_value_is values = refl

pub column_fits : (t : ℕ) (values : List ℤ) (n : ℕ) → n < length values → AreInRange t values → FitsSigned (integer_width t) (value_at values n)
column_fits t values n h fit = All-get_or (λ v. FitsSigned (integer_width t) v) values n (pos 0) h fit

-- the least value is not above any
pub least_value_below : (values : List ℤ) (n : ℕ) → n < 1024 → least_value values ≤ℤ value_at values n
least_value_below values n h =
    rw (least_value_is values) ((least_is_low (λ _. true) (value_at values) 0).each_bound n h refl)

pub least_value_not_above : (values : List ℤ) → least_value values ≤ℤ greatest_value values
least_value_not_above values =
    rw (least_value_is values, greatest_value_is values) (least_not_above (λ _. true) (value_at values) 0)

pub range_fits : (t : ℕ) (values : List ℤ) → IsLaneWidth t → length values ≡ 1024 → AreInRange t values → int_gap (least_value values) (greatest_value values) < 2 ^ t
range_fits t values width long fit =
    rw (least_value_is values, greatest_value_is values)
    (range_in_lane t (λ _. true) (value_at values) 0 width refl (omega arith) (λ n h _. column_fits t values n (omega arith) fit))

pub frame_width_is : (values : List ℤ) → frame_width values ≡ least_width (int_gap (least_value values) (greatest_value values))
unfolding frame_width
frame_width_is values = refl

pub frame_width_in_lane : (t : ℕ) (values : List ℤ) → IsLaneWidth t → length values ≡ 1024 → AreInRange t values → frame_width values ≤ t
frame_width_in_lane t values width long fit =
    rw (frame_width_is values) (width_in_lane t (int_gap (least_value values) (greatest_value values)) width (range_fits t values width long fit))

pub gaps_above_is : (r : ℤ) (values : List ℤ) (n d : ℕ) → n < 1024 → get_or (gaps_above r values) n d ≡ int_gap r (value_at values n)
unfolding gaps_above
gaps_above_is r values n d h = get_or-rows_of (λ k. int_gap r (value_at values k)) n d h

pub length-gaps_above : (r : ℤ) (values : List ℤ) → length (gaps_above r values) ≡ 1024
unfolding gaps_above
length-gaps_above r values = length-rows_of (λ k. int_gap r (value_at values k))

-- each gap has the width
pub gaps_have_width : (t : ℕ) (values : List ℤ) → IsLaneWidth t → length values ≡ 1024 → AreInRange t values → All (λ v. v < 2 ^ frame_width values) (gaps_above (least_value values) values)
gaps_have_width t values width long fit =
    All-from_get_or (λ v. v < 2 ^ frame_width values) (gaps_above (least_value values) values) 0
    (λ n h.
    let near : n < 1024 = omega (arith, length-gaps_above (least_value values) values) in
    subst (λ (v : ℕ). v < 2 ^ frame_width values) (sym (gaps_above_is (least_value values) values n 0 near)) (gap_small n near))
  where
    gap_small : (n : ℕ) → n < 1024 → int_gap (least_value values) (value_at values n) < 2 ^ frame_width values
    gap_small n near =
        rw (frame_width_is values, least_value_is values, greatest_value_is values)
        (gap_has_width t (λ _. true) (value_at values) 0 n width (range_in_lane t (λ _. true) (value_at values) 0 width refl (omega arith) (λ k h _. column_fits t values k (omega arith) fit)) near refl)

-- ---- decoding
pub value_at-frame_values : (c : FrameForm) (n : ℕ) → n < 1024 → value_at (frame_values c) n ≡ frame_value c n
unfolding frame_values
value_at-frame_values c n h = get_or-rows_of (frame_value c) n (pos 0) h

pub length-frame_values : (c : FrameForm) → length (frame_values c) ≡ 1024
unfolding frame_values
length-frame_values c = length-rows_of (frame_value c)

-- the packed number at a row of packed words is the number that was packed
pub packed_back : (t w : ℕ) (numbers : List ℕ) (n : ℕ) → IsLaneWidth t → length numbers ≡ 1024 → All (λ v. v < 2 ^ w) numbers → n < 1024 → packed_value t w (packed t w numbers) (lane_of t n) (step_of t n) ≡ get_or numbers n 0
packed_back t w numbers n width long fit h =
    sym (get_or-unpacked t w (packed t w numbers) n 0 h) ∙ ap (λ xs. get_or xs n 0) (unpacked-packed t w numbers width long fit)

-- the least form decodes to its values
frame_value-least_frame : (t : ℕ) (values : List ℤ) (n : ℕ) → IsLaneWidth t → length values ≡ 1024 → AreInRange t values → n < 1024 → frame_value (least_frame t values) n ≡ value_at values n
unfolding frame_value least_frame
frame_value-least_frame t values n width long fit h =
    let gap = packed_back t (frame_width values) (gaps_above (least_value values) values) n width (length-gaps_above (least_value values) values) (gaps_have_width t values width long fit) h ∙ gaps_above_is (least_value values) values n 0 h in
    let sum = gap_back (least_value values) (value_at values n) (least_value_below values n h) in
    ap (λ g. int_wrap (integer_width t) (least_value values +ℤ pos g)) gap
    ∙ ap (int_wrap (integer_width t)) sum
    ∙ int_wrap_fits (integer_width t) (value_at values n) (column_fits t values n (omega arith) fit)

pub frame_values-least_frame : (t : ℕ) (values : List ℤ) → IsLaneWidth t → length values ≡ 1024 → AreInRange t values → frame_values (least_frame t values) ≡ values
unfolding frame_values
frame_values-least_frame t values width long fit =
    sym (rows_of-same (frame_value (least_frame t values)) values (pos 0) long (λ n h. sym (frame_value-least_frame t values n width long fit h)))

-- ---- the parts of the least form
pub least_value_fits : (t : ℕ) (values : List ℤ) → length values ≡ 1024 → AreInRange t values → FitsSigned (integer_width t) (least_value values)
least_value_fits t values long fit =
    let at = least_is_at (λ _. true) (value_at values) 0 refl (omega arith) in
    subst (λ (z : ℤ). FitsSigned (integer_width t) z) (sym (least_value_is values ∙ at.is)) (column_fits t values at.place (omega (arith, at.within)) fit)

pub least_frame_is_a_form : (t : ℕ) (values : List ℤ) → IsLaneWidth t → length values ≡ 1024 → AreInRange t values → IsFrameForm (least_frame t values)
unfolding least_frame
least_frame_is_a_form t values width long fit =
    record {
      lane_width = width;
      words = refl;
      packed = HasWidth-words_packing t (frame_width values) (gaps_above (least_value values) values) (frame_width_in_lane t values width long fit);
      fit = All-packed t (frame_width values) (gaps_above (least_value values) values);
      reference = least_value_fits t values long fit;
    }

-- a form with the parts of the least form is the least form
pub frame_from_parts : (form : FrameForm) (t : ℕ) (values : List ℤ) (numbers : List ℕ) → form.lane_width ≡ t → form.words ≡ words_packing t form.width numbers → form.width ≡ frame_width values → form.reference ≡ least_value values → numbers ≡ gaps_above form.reference values → form ≡ least_frame t values
unfolding least_frame
frame_from_parts form t values numbers lanes packs wide least gaps =
    let words : form.words ≡ words_packing t (frame_width values) (gaps_above (least_value values) values) =
    packs ∙ ap (λ w. words_packing t w numbers) wide ∙ ap (words_packing t (frame_width values)) (gaps ∙ ap (λ r. gaps_above r values) least) in
    λ i. record { lane_width = lanes i; width = wide i; reference = least i; words = words i }
