-- Dictionary forms: the distinct values in order, and the code of each row.
use Rattle.std.specs.Prelude.{◌≡◌, ℕ, ◌+◌, ◌-◌, ◌*◌, ◌/◌, ◌^◌, ◌<◌, ◌≤◌, if◌then◌else◌, ℤ, int_lt, ◌<ℤ◌, List, [], ◌∷◌, map, length}
use Rattle.std.specs.List.{position_or_len}
use Rattle.std.specs.Ordering.{int_eq}
use Rattle.transpose_order.specs.Mask.{rows_of}
use Rattle.transpose_order.specs.Place.{IsLaneWidth, lane_of, step_of, row_at}
use Rattle.bit_interleave.specs.Arithmetic.{least_width}
use Rattle.bit_interleave.specs.Packing.{packed_value}
use Rattle.bit_interleave.specs.PackedWords.{PackedWords, FitLanes, HasWidth, words_packing}
use Rattle.bit_interleave.specs.Range.{AreInRange, value_at}

-- a value put into its place in an ascending list, once
abbrev pub with_value : ℤ → List ℤ → List ℤ
with_value v [] = v ∷ []
with_value v (x ∷ xs) = if int_lt v x then v ∷ x ∷ xs else (if int_eq v x then x ∷ xs else x ∷ with_value v xs)

-- the distinct values of a list, ascending
unfoldable pub distinct : List ℤ → List ℤ
distinct [] = []
distinct (v ∷ vs) = with_value v (distinct vs)

-- each value is less than the next
abbrev pub IsAscending : List ℤ → Type 0
IsAscending values = (k : ℕ) → k + 1 < length values → value_at values k <ℤ value_at values (k + 1)

-- a dictionary form: the lane width, the bits of a code, the values of the dictionary, and the codes packed in lanes of 16 bits
pub record DictForm : Type 0 where
  pub lane_width : ℕ
  pub width : ℕ
  pub values : List ℤ
  pub codes : PackedWords

-- the code of row n in packed words: codes are in lanes of 16 bits whatever the column's lane width is
unfoldable pub packed_code : ℕ → PackedWords → ℕ → ℕ
packed_code width codes n = packed_value 16 width codes.numbers (lane_of 16 n) (step_of 16 n)

-- the code of each of 1024 rows is below a count
abbrev pub AreCodesBelow : ℕ → PackedWords → ℕ → Type 0
AreCodesBelow width codes count = (n : ℕ) → n < 1024 → packed_code width codes n < count

-- the code of row n of a form
abbrev pub code_at : DictForm → ℕ → ℕ
code_at form n = packed_code form.width form.codes n

-- the value at row n is the dictionary's value at the row's code
abbrev pub dict_value : DictForm → ℕ → ℤ
dict_value form n = value_at form.values (code_at form n)

-- the 1024 values in row order
unfoldable pub dict_values : DictForm → List ℤ
dict_values form = rows_of (dict_value form)

-- a form that represents 1024 values: the dictionary ascends, and each code is a place in it
pub record IsDictForm (form : DictForm) : Type 0 where
  pub lane_width : IsLaneWidth form.lane_width
  pub words : form.codes.lane_width ≡ 16
  pub packed : HasWidth form.codes form.width
  pub fit : FitLanes form.codes
  pub many : length form.values ≤ 1024
  pub rises : IsAscending form.values
  pub codes : AreCodesBelow form.width form.codes (length form.values)
  pub range : AreInRange form.lane_width form.values

-- the place of a value in a dictionary
unfoldable pub code_of : List ℤ → ℤ → ℕ
code_of dictionary value = position_or_len (λ x. int_eq x value) dictionary

-- the least form of 1024 values: the distinct values, and the least width for the greatest code
abbrev pub least_dict : ℕ → List ℤ → DictForm
least_dict t values = record {
  lane_width = t;
  width = least_width (length (distinct values) - 1);
  values = distinct values;
  codes = words_packing 16 (least_width (length (distinct values) - 1)) (map (code_of (distinct values)) values);
}

-- the bytes of a form's payload: the values of the dictionary and the packed codes
abbrev pub dict_bytes : DictForm → ℕ
dict_bytes form = length form.values * form.lane_width / 8 + 128 * form.width

-- the code of the row at a lane and a step is the number packed there
abbrev pub CodesStandInLanes : Type 0
CodesStandInLanes =
    (form : DictForm) (lane step : ℕ) → lane < 64 → step < 16 → code_at form (row_at 16 lane step) ≡ packed_value 16 form.width form.codes.numbers lane step

-- the least form of 1024 values is a form
abbrev pub LeastDictIsAForm : Type 0
LeastDictIsAForm =
    (t : ℕ) (values : List ℤ) → IsLaneWidth t → length values ≡ 1024 → AreInRange t values → IsDictForm (least_dict t values)

-- the least form of 1024 values represents them
abbrev pub LeastDictGivesBack : Type 0
LeastDictGivesBack =
    (t : ℕ) (values : List ℤ) → length values ≡ 1024 → dict_values (least_dict t values) ≡ values

-- of all forms that represent the same values the least one has the fewest values, and no form's width is too small for them
abbrev pub LeastDictIsFewest : Type 0
LeastDictIsFewest =
    (form : DictForm) → IsDictForm form → let least = length (least_dict form.lane_width (dict_values form)).values in (least ≤ length form.values) × (least ≤ 2 ^ form.width)
