-- Frame of reference: each value is a reference plus a packed number.
use Rattle.std.specs.Prelude.{◌≡◌, ◌<◌, ◌≤◌, ◌≤ℤ◌, ◌↔◌, length, slice_index, ℕ, ◌+◌, ◌*◌, ◌/◌, ℤ, pos, ◌+ℤ◌, true, List}
use Rattle.std.specs.Int.{int_wrap, int_gap}
use Rattle.std.specs.Int.RustNames.{FitsSigned}
use Rattle.transpose_order.specs.Place.{IsLaneWidth, lane_of, step_of}
use Rattle.transpose_order.specs.Mask.{rows_of}
use Rattle.bit_interleave.specs.Arithmetic.{integer_width, least_width}
use Rattle.bit_interleave.specs.Packing.{packed_value, unpacked}
use Rattle.bit_interleave.specs.PackedWords.{PackedWords, FitLanes, HasWidth, words_packing}
use Rattle.bit_interleave.specs.Range.{AreInRange, value_at}
use Rattle.bit_interleave.specs.Places.{by_place}
use Rattle.frame_delta.specs.Extremes.{least_among, greatest_among}

-- a frame: the lane width, the bits of a packed number, the reference, and the packed numbers' words
pub record FrameForm : Type 0 where
  pub lane_width : ℕ
  pub width : ℕ
  pub reference : ℤ
  pub words : PackedWords

-- the value at row n: the reference plus the packed number, modulo two to the power of the lane width, read as signed
unfoldable pub frame_value : FrameForm → ℕ → ℤ
frame_value form n =
    int_wrap (integer_width form.lane_width)
    (form.reference +ℤ pos (packed_value form.lane_width form.width form.words.numbers (lane_of form.lane_width n) (step_of form.lane_width n)))

-- the 1024 values in row order
unfoldable pub frame_values : FrameForm → List ℤ
frame_values form = rows_of (frame_value form)

-- the least of 1024 values
unfoldable pub least_value : List ℤ → ℤ
least_value values = least_among (λ _. true) (value_at values) (value_at values 0) 1024

-- the greatest of 1024 values
unfoldable pub greatest_value : List ℤ → ℤ
greatest_value values = greatest_among (λ _. true) (value_at values) (value_at values 0) 1024

-- the least width that holds the distance of every value from the least
unfoldable pub frame_width : List ℤ → ℕ
frame_width values = least_width (int_gap (least_value values) (greatest_value values))

-- the distances of the values from a reference, in row order
unfoldable pub gaps_above : ℤ → List ℤ → List ℕ
gaps_above reference values = rows_of (λ n. int_gap reference (value_at values n))

-- the least form: the least value as the reference, and the least width
unfoldable pub least_frame : ℕ → List ℤ → FrameForm
least_frame t values = record {
  lane_width = t;
  width = frame_width values;
  reference = least_value values;
  words = words_packing t (frame_width values) (gaps_above (least_value values) values);
}

-- the payload's bytes: the reference, and 128 bytes for each bit of the width
abbrev pub frame_bytes : FrameForm → ℕ
frame_bytes form = form.lane_width / 8 + 128 * form.width

-- a frame that represents 1024 values: its words are of its lane width and have its width, and the reference is in the range
-- of the lane width
pub record IsFrameForm (form : FrameForm) : Type 0 where
  pub lane_width : IsLaneWidth form.lane_width
  pub words : form.words.lane_width ≡ form.lane_width
  pub packed : HasWidth form.words form.width
  pub fit : FitLanes form.words
  pub reference : FitsSigned (integer_width form.lane_width) form.reference

-- numbers by places are those that words of t bits pack at w bits
abbrev pub ArePacked : ℕ → ℕ → List ℕ → List ℕ → Type 0
ArePacked t w words numbers =
    (n : ℕ) → n < 1024 → by_place numbers n ≡ slice_index (unpacked t w words) n

-- two rows have the same number by places exactly when they have the same value
abbrev pub TellApart : List ℕ → List ℤ → Type 0
TellApart numbers values =
    (m n : ℕ) → m < 1024 → n < 1024 → (by_place numbers m ≡ by_place numbers n) ↔ (value_at values m ≡ value_at values n)

-- each value is r plus its row's number, of numbers by places, modulo two to the power of t, read as signed
abbrev pub AreAbove : ℕ → ℤ → List ℕ → List ℤ → Type 0
AreAbove t r numbers values =
    (n : ℕ) → n < 1024 → value_at values n ≡ int_wrap (integer_width t) (r +ℤ pos (by_place numbers n))

-- the least form of some values decodes to them
abbrev pub LeastFrameGivesBack : Type 0
LeastFrameGivesBack =
    (t : ℕ) (values : List ℤ) → IsLaneWidth t → length values ≡ 1024 → AreInRange t values → frame_values (least_frame t values) ≡ values

-- the least form of values in the range of the lane width is a frame
abbrev pub LeastFrameIsAForm : Type 0
LeastFrameIsAForm =
    (t : ℕ) (values : List ℤ) → IsLaneWidth t → length values ≡ 1024 → AreInRange t values → IsFrameForm (least_frame t values)

-- of all words that are read with a reference above none of the values, at a width within the lanes, none are of a smaller
-- width than the least form of those values
abbrev pub LeastFrameIsNarrowest : Type 0
LeastFrameIsNarrowest =
    (form : FrameForm) → IsLaneWidth form.lane_width → form.width ≤ form.lane_width → FitsSigned (integer_width form.lane_width) form.reference → ((n : ℕ) → n < 1024 → form.reference ≤ℤ value_at (frame_values form) n) → (least_frame form.lane_width (frame_values form)).width ≤ form.width
