-- Delta coding: within a lane each value is the one before plus the least delta and a packed number.
use Rattle.std.specs.Prelude.{◌≡◌, ◌<◌, ◌≤◌, ◌≤ℤ◌, true, ℕ, zero, suc, ◌+◌, ◌-◌, ◌*◌, ◌/◌, ◌%◌, ℤ, pos, ◌+ℤ◌, ◌-ℤ◌, Bool, not, cond, ◌==◌, List, map, length, slice_index}
use Rattle.std.specs.Int.{int_wrap, int_gap}
use Rattle.std.specs.Int.RustNames.{FitsSigned}
use Rattle.std.specs.List.{range_with_len}
use Rattle.transpose_order.specs.Place.{IsLaneWidth, lane_of, step_of, row_at, place_of}
use Rattle.transpose_order.specs.Mask.{rows_of}
use Rattle.bit_interleave.specs.Arithmetic.{integer_width, least_width}
use Rattle.bit_interleave.specs.Packing.{packed_value}
use Rattle.bit_interleave.specs.PackedWords.{PackedWords, FitLanes, HasWidth, words_packing}
use Rattle.bit_interleave.specs.Range.{AreInRange, value_at}
use Rattle.bit_interleave.specs.Places.{by_place}
use Rattle.frame_delta.specs.Extremes.{least_among, greatest_among}

-- a form by deltas: the lane width, the bits of a packed number, the least delta, the bases in lane order, and the packed
-- numbers' words
pub record DeltaForm : Type 0 where
  pub lane_width : ℕ
  pub width : ℕ
  pub least : ℤ
  pub bases : List ℤ
  pub words : PackedWords

-- f 0 + f 1 + .. + f (k - 1)
unfoldable pub sum_to : ℕ → (ℕ → ℤ) → ℤ
sum_to zero f = pos 0
sum_to (suc k) f = sum_to k f +ℤ f k

-- what a lane adds at a step: the least delta plus the packed number
abbrev pub delta_of : DeltaForm → ℕ → ℕ → ℤ
delta_of form lane step =
    form.least +ℤ pos (packed_value form.lane_width form.width form.words.numbers lane step)

-- the value at a lane and a step: the lane's base plus what it adds at each step up to it, modulo two to the power of the lane
-- width, read as signed
unfoldable pub delta_at : DeltaForm → ℕ → ℕ → ℤ
delta_at form lane step =
    int_wrap (integer_width form.lane_width) (value_at form.bases lane +ℤ sum_to (suc step) (delta_of form lane))

-- the value at row n
unfoldable pub delta_value : DeltaForm → ℕ → ℤ
delta_value form n = delta_at form (lane_of form.lane_width n) (step_of form.lane_width n)

-- the 1024 values in row order
unfoldable pub delta_values : DeltaForm → List ℤ
delta_values form = rows_of (delta_value form)

-- row n is at step 1 or later of its lane, so that the row before is the step before
abbrev pub is_later : ℕ → ℕ → Bool
is_later t n = not (n % t == 0)

-- the difference of a later row from the row before, modulo two to the power of t, read as signed
unfoldable pub difference_at : ℕ → List ℤ → ℕ → ℤ
difference_at t values n = int_wrap (integer_width t) (value_at values n -ℤ value_at values (n - 1))

-- the difference of row n's number from that of the row before, of numbers by places, modulo two to the power of t, read as signed
unfoldable pub number_difference : ℕ → List ℕ → ℕ → ℤ
number_difference t numbers n =
    int_wrap (integer_width t) (pos (by_place numbers n) -ℤ pos (by_place numbers (n - 1)))

-- sixteen numbers are those of a place, of numbers by places
abbrev pub AreOfPlace : ℕ → List ℕ → List ℕ → Type 0
AreOfPlace place lanes numbers = (i : ℕ) → i < 16 → slice_index numbers (16 * place + i) ≡ slice_index lanes i

-- the difference at each row, and at step 0, which has none, that of row 1
unfoldable pub differences_within : ℕ → List ℤ → List ℤ
differences_within t values = rows_of (λ n. difference_at t values (cond (is_later t n) n 1))

-- the least of the later differences
unfoldable pub least_difference : ℕ → List ℤ → ℤ
least_difference t values =
    least_among (is_later t) (difference_at t values) (difference_at t values 1) 1024

-- the greatest of the later differences
unfoldable pub greatest_difference : ℕ → List ℤ → ℤ
greatest_difference t values =
    greatest_among (is_later t) (difference_at t values) (difference_at t values 1) 1024

-- the least width that holds the distance of every later difference from the least
unfoldable pub delta_width : ℕ → List ℤ → ℕ
delta_width t values = least_width (int_gap (least_difference t values) (greatest_difference t values))

-- the distances of the later differences from the least, and 0 at step 0, in row order
unfoldable pub later_gaps : ℕ → ℤ → List ℤ → List ℕ
later_gaps t least values = rows_of (λ n. cond (n % t == 0) 0 (int_gap least (difference_at t values n)))

-- each lane's first value less the least delta
unfoldable pub bases_of : ℕ → ℤ → List ℤ → List ℤ
bases_of t least values =
    map (λ lane. int_wrap (integer_width t) (value_at values (row_at t lane 0) -ℤ least)) (range_with_len 0 (1024 / t))

-- the least form: the least later difference, and the least width
unfoldable pub least_delta : ℕ → List ℤ → DeltaForm
least_delta t values = record {
  lane_width = t;
  width = delta_width t values;
  least = least_difference t values;
  bases = bases_of t (least_difference t values) values;
  words = words_packing t (delta_width t values) (later_gaps t (least_difference t values) values);
}

-- the payload's bytes: the least delta, 128 bytes of bases, and 128 bytes for each bit of the width
abbrev pub delta_bytes : DeltaForm → ℕ
delta_bytes form = form.lane_width / 8 + 128 + 128 * form.width

-- a form by deltas that represents 1024 values: its words are of its lane width and have its width, there is a base for each
-- lane, and the numbers are in the range of the lane width
pub record IsDeltaForm (form : DeltaForm) : Type 0 where
  pub lane_width : IsLaneWidth form.lane_width
  pub words : form.words.lane_width ≡ form.lane_width
  pub packed : HasWidth form.words form.width
  pub fit : FitLanes form.words
  pub least : FitsSigned (integer_width form.lane_width) form.least
  pub base_count : length form.bases ≡ 1024 / form.lane_width
  pub bases : AreInRange form.lane_width form.bases

-- sixteen numbers that, modulo two to the power of the lane width and read as signed, are the values of piece q
pub record AreSums (form : DeltaForm) (q : ℕ) (sums : List ℕ) : Type 0 where
  pub long : length sums ≡ 16
  pub lanes : (i : ℕ) → i < 16 → int_wrap (integer_width form.lane_width) (pos (slice_index sums i)) ≡ delta_at form (16 * (q / form.lane_width) + i) (q % form.lane_width)

-- the sums of a piece wrap to the values of its rows, which are at one place of each 64
abbrev pub SumsGiveTheirRows : Type 0
SumsGiveTheirRows =
    (form : DeltaForm) (q : ℕ) (sums : List ℕ) → IsLaneWidth form.lane_width → q < 64 → AreSums form q sums → (i : ℕ) → i < 16 → int_wrap (integer_width form.lane_width) (pos (slice_index sums i)) ≡ delta_value form (64 * i + place_of form.lane_width q)

-- the value at step 0 is the lane's base plus its delta, and at each step after that the value before plus its delta, modulo
-- two to the power of the lane width, read as signed
abbrev pub DeltasAddUp : Type 0
DeltasAddUp =
    (form : DeltaForm) (lane step : ℕ) → (delta_at form lane 0 ≡ int_wrap (integer_width form.lane_width) (value_at form.bases lane +ℤ delta_of form lane 0)) × (delta_at form lane (suc step) ≡ int_wrap (integer_width form.lane_width) (delta_at form lane step +ℤ delta_of form lane (suc step)))

-- the least form of some values decodes to them
abbrev pub LeastDeltaGivesBack : Type 0
LeastDeltaGivesBack =
    (t : ℕ) (values : List ℤ) → IsLaneWidth t → length values ≡ 1024 → AreInRange t values → delta_values (least_delta t values) ≡ values

-- the least form of values is a form by deltas
abbrev pub LeastDeltaIsAForm : Type 0
LeastDeltaIsAForm = (t : ℕ) (values : List ℤ) → IsLaneWidth t → IsDeltaForm (least_delta t values)

-- of all words and bases that are read with a least delta above no later difference of the values, at a width within the lanes,
-- none are of a smaller width than the least form of those values
abbrev pub LeastDeltaIsNarrowest : Type 0
LeastDeltaIsNarrowest =
    (form : DeltaForm) → IsLaneWidth form.lane_width → form.width ≤ form.lane_width → FitsSigned (integer_width form.lane_width) form.least → ((n : ℕ) → n < 1024 → is_later form.lane_width n ≡ true → form.least ≤ℤ difference_at form.lane_width (delta_values form) n) → (least_delta form.lane_width (delta_values form)).width ≤ form.width
