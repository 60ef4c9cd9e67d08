-- Run-length forms: where runs start, and the value of each run.
use Rattle.std.specs.Prelude.{◌≡◌, ℕ, suc, ◌+◌, ◌-◌, ◌*◌, ◌/◌, ◌≤◌, ◌==◌, nat_lt, Bool, false, ◌&&◌, ◌||◌, not, ℤ, pos, List, map, filter, length, slice_index_or}
use Rattle.std.specs.List.{range_with_len}
use Rattle.std.specs.Ordering.{int_eq}
use Rattle.transpose_order.specs.Mask.{rows_of, has, count_below}
use Rattle.transpose_order.specs.Place.{IsLaneWidth}
use Rattle.bit_interleave.specs.Range.{AreInRange, value_at}

-- a run-length form: the lane width, the rows where a run starts after row 0, and the values of the runs in order
pub record RunForm : Type 0 where
  pub lane_width : ℕ
  pub starts : List Bool
  pub values : List ℤ

-- the run of row n: how many runs start at rows 1 to n
abbrev pub run_of : List Bool → ℕ → ℕ
run_of starts n = count_below (λ i. has starts (suc i)) n

-- the value at row n is that of its run
abbrev pub run_value : RunForm → ℕ → ℤ
run_value form n = slice_index_or form.values (run_of form.starts n) (pos 0)

-- the 1024 values in row order
unfoldable pub run_values : RunForm → List ℤ
run_values form = rows_of (run_value form)

-- a form that represents 1024 values: no run starts at row 0, and each start has its value
pub record IsRunForm (form : RunForm) : Type 0 where
  pub lane_width : IsLaneWidth form.lane_width
  pub rows : length form.starts ≡ 1024
  pub first : has form.starts 0 ≡ false
  pub count : length form.values ≡ run_of form.starts 1023 + 1
  pub range : AreInRange form.lane_width form.values

-- a value differs from the one before it
unfoldable pub changes_at : (ℕ → ℤ) → ℕ → Bool
changes_at value n = nat_lt 0 n && not (int_eq (value n) (value (n - 1)))

-- the values at row 0 and at each row below n where the value changes
unfoldable pub changed_values : (ℕ → ℤ) → ℕ → List ℤ
changed_values value n = map value (filter (λ row. (row == 0) || changes_at value row) (range_with_len 0 n))

-- the least form of 1024 values: a run starts exactly where a value differs from the one before
abbrev pub least_runs : ℕ → List ℤ → RunForm
least_runs t values = record {
  lane_width = t;
  starts = rows_of (changes_at (value_at values));
  values = changed_values (value_at values) 1024;
}

-- the bytes of a form's payload: the start mask and the values of the runs
abbrev pub run_bytes : RunForm → ℕ
run_bytes form = 128 + length form.values * form.lane_width / 8

-- the least form of 1024 values is a form
abbrev pub LeastRunsAreAForm : Type 0
LeastRunsAreAForm =
    (t : ℕ) (values : List ℤ) → IsLaneWidth t → length values ≡ 1024 → AreInRange t values → IsRunForm (least_runs t values)

-- the least form of 1024 values represents them
abbrev pub LeastRunsGiveBack : Type 0
LeastRunsGiveBack =
    (t : ℕ) (values : List ℤ) → length values ≡ 1024 → run_values (least_runs t values) ≡ values

-- of all forms that represent the same values the least one has the fewest runs
abbrev pub LeastRunsAreFewest : Type 0
LeastRunsAreFewest =
    (form : RunForm) → IsRunForm form → length (least_runs form.lane_width (run_values form)).values ≤ length form.values
