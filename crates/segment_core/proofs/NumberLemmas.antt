-- Numbers by places tell a vector's values apart, so that what repeats is seen at the numbers.
use Rattle.std.proofs.Common.{◌≡◌, ◌↔◌, ℕ, ◌+◌, ◌-◌, ◌*◌, ◌/◌, ◌%◌, ◌<◌, Bool, true, false, ℤ, pos, ◌+ℤ◌, List, map, length, get_or, sym, ◌∙◌, ap, arith}
use Rattle.std.specs.Int.{w64, int_wrap, cast_unsigned}
use Rattle.std.specs.Int.RustNames.{FitsSigned}
use Rattle.std.specs.List.{range_with_len}
use Rattle.std.proofs.lemmas.Int.{ints, int_wrap_fits}
use Rattle.std.proofs.lemmas.List.FromFn.{get_or-map-range_with_len}
use Rattle.transpose_order.specs.Place.{IsLaneWidth}
use Rattle.bit_interleave.specs.Arithmetic.{integer_width}
use Rattle.bit_interleave.specs.Range.{value_at, AreInRange}
use Rattle.bit_interleave.specs.Places.{by_place, index_of_row, row_of_index}
use Rattle.bit_interleave.proofs.PlacesLemmas.{index_of_row-below, row_of_index-index_of_row}
use Rattle.bit_interleave.proofs.WrapLemmas.{int_wrap-bits, fits_wide}
use Rattle.frame_delta.specs.Frame.{TellApart, AreAbove}
use Rattle.frame_delta.proofs.FrameLemmas.{column_fits}
use Rattle.run_dictionary.specs.Dict.{DictForm, code_at, dict_values}
use Rattle.segment_core.specs.Repeats.{Repeats, RepeatByPlace}
use Rattle.segment_core.specs.CanonicalForm.{AreSigned}
use Rattle.segment_core.specs.declared.coded.Coded.TheVariants.{Dict as InDictionary}
use Rattle.segment_core.proofs.CodedLemmas.{value_at-values_of}

-- ---- rows that repeat
pub repeat_by_place : (rows : List Bool) (numbers : List ℕ) (values : List ℤ) → TellApart numbers values → RepeatByPlace rows numbers ↔ ((n : ℕ) → 0 < n → n < 1024 → get_or rows n false ≡ true → value_at values n ≡ value_at values (n - 1))
repeat_by_place rows numbers values apart = (
  λ h n some l m. (apart n (n - 1) l (omega arith)).0 (h n some l m),
  λ h n some l m. (apart n (n - 1) l (omega arith)).1 (h n some l m),
)

-- the values repeat as the fill asks exactly where the numbers do, and the first is 0 where it has to be
pub repeats_are : (rows : List Bool) (valueless : Bool) (numbers : List ℕ) (values : List ℤ) → TellApart numbers values → Repeats rows valueless values ↔ (RepeatByPlace rows numbers × (valueless ≡ true → value_at values 0 ≡ pos 0))
repeats_are rows valueless numbers values apart = (
  λ h. ((repeat_by_place rows numbers values apart).1 h.each, h.zero),
  λ h. record { each = (repeat_by_place rows numbers values apart).0 h.0; zero = h.1 },
)

-- ---- values as numbers
pub signed_above : (t : ℕ) (numbers : List ℕ) (values : List ℤ) → IsLaneWidth t → length values ≡ 1024 → AreInRange t values → AreSigned numbers values → AreAbove t (pos 0) numbers values
signed_above t numbers values w long range are n l =
    let fits : FitsSigned (integer_width t) (value_at values n) = column_fits t values n (omega arith) range in
    let wide : FitsSigned w64 (value_at values n) = fits_wide t (value_at values n) w fits in
    sym (ap (λ x. int_wrap (integer_width t) (pos 0 +ℤ pos x)) (are n l)
    ∙ ap (int_wrap (integer_width t)) (let e : pos 0 +ℤ pos (cast_unsigned w64 (value_at values n)) ≡ pos (cast_unsigned w64 (value_at values n)) = omega (arith, ints) in e)
    ∙ int_wrap-bits t (value_at values n) w wide ∙ int_wrap_fits (integer_width t) (value_at values n) fits)

pub signed_at : (numbers : List ℕ) (values : List ℤ) → ((q : ℕ) → q < 1024 → get_or numbers q 0 ≡ cast_unsigned w64 (value_at values (64 * (q % 16) + q / 16))) → AreSigned numbers values
signed_at numbers values h n l =
    h (index_of_row n) (index_of_row-below n l) ∙ ap (λ k. cast_unsigned w64 (value_at values k)) (row_of_index-index_of_row n l)

-- the numbers by places that are values in row order
pub numbers_of : List ℤ → List ℕ
numbers_of values = map (λ q. cast_unsigned w64 (value_at values (row_of_index q))) (range_with_len 0 1024)

pub get_or-numbers_of : (values : List ℤ) (q : ℕ) → q < 1024 → get_or (numbers_of values) q 0 ≡ cast_unsigned w64 (value_at values (row_of_index q))
unfolding numbers_of
get_or-numbers_of values q h = get_or-map-range_with_len (λ k. cast_unsigned w64 (value_at values (row_of_index k))) 0 1024 q q 0 h (omega arith)

-- the numbers that a dictionary's values at codes by places are
pub numbers_at : List ℤ → List ℕ → List ℕ
numbers_at dictionary codes = map (λ k. cast_unsigned w64 (value_at dictionary (get_or codes k 0))) (range_with_len 0 1024)

pub get_or-numbers_at : (dictionary : List ℤ) (codes : List ℕ) (k : ℕ) → k < 1024 → get_or (numbers_at dictionary codes) k 0 ≡ cast_unsigned w64 (value_at dictionary (get_or codes k 0))
unfolding numbers_at
get_or-numbers_at dictionary codes k h = get_or-map-range_with_len (λ k. cast_unsigned w64 (value_at dictionary (get_or codes k 0))) 0 1024 k k 0 h (omega arith)

-- the values of a dictionary at codes by places
pub dictionary_signed : (form : DictForm) (dictionary : List ℤ) (codes numbers : List ℕ) → dictionary ≡ form.values → ((n : ℕ) → n < 1024 → by_place codes n ≡ code_at form n) → ((k : ℕ) → k < 1024 → get_or numbers k 0 ≡ cast_unsigned w64 (value_at dictionary (get_or codes k 0))) → AreSigned numbers (dict_values form)
dictionary_signed form dictionary codes numbers same are h n l =
    h (index_of_row n) (index_of_row-below n l)
    ∙ ap (λ (xs : List ℤ). cast_unsigned w64 (value_at xs (get_or codes (index_of_row n) 0))) same
    ∙ ap (λ k. cast_unsigned w64 (value_at form.values k)) (are n l)
    ∙ ap (cast_unsigned w64) (sym (value_at-values_of (InDictionary form) n l))
