-- Cells of columns as arrays: of each column a number for each row, and a bit for each row.
use Rattle.std.specs.Prelude.{◌≡◌, ℕ, ◌+◌, ◌*◌, ◌/◌, ◌%◌, ◌<◌, Bool, cond, not, ◌&&◌, ◌||◌, ◌==◌, nat_lt, List, map, length, slice_index, slice_index_or, Option, Some, None, ℤ, pos, ◌≤ℤ◌}
use Rattle.std.specs.Int.{bit_at}
use Rattle.std.specs.List.{All, range_with_len}
use Rattle.table_model.specs.State.{Cells, Batch}
use Rattle.table_model.specs.Table.{least_of, greatest_of}
use Rattle.table_model.specs.declared.schema.ColType.{ColType}

-- a column's cells: a number for each row, and validity bits, or none
pub record ArrayForm : Type 0 where
  pub values : List ℤ
  pub valid : List ℕ

-- there are no validity bits, or one for each number
abbrev pub has_bits : ArrayForm → Bool
has_bits a = length a.valid == 0 || not (nat_lt (8 * length a.valid) (length a.values))

-- whether the cell of a row is a value: bit row % 8 of byte row / 8 is 1; without bits each is
abbrev pub is_valid : ArrayForm → ℕ → Bool
is_valid a row = length a.valid == 0 || bit_at (slice_index a.valid (row / 8)) (row % 8) == 1

-- the cell of a row: its number if it is a value
abbrev pub array_cell : ArrayForm → ℕ → Option ℤ
array_cell a row = cond (is_valid a row) (Some (slice_index_or a.values row (pos 0))) None

-- the cells of all rows
unfoldable pub array_cells : ArrayForm → List (Option ℤ)
array_cells a = map (array_cell a) (range_with_len 0 (length a.values))

-- the cells of a row, from the left
abbrev pub array_row : List ArrayForm → ℕ → Cells
array_row arrays row = map (λ (a : ArrayForm). array_cell a row) arrays

-- the first rows
unfoldable pub array_rows : ℕ → List ArrayForm → Batch
array_rows rows arrays = map (array_row arrays) (range_with_len 0 rows)

-- each column has a number of rows
abbrev pub HaveRows : ℕ → List ArrayForm → Type 0
HaveRows rows arrays = All (λ (a : ArrayForm). length a.values ≡ rows) arrays

-- each number is from a least one to a greatest one
abbrev pub AreBetween : ℤ → ℤ → List ℤ → Type 0
AreBetween least greatest numbers = (n : ℕ) → n < length numbers → (least ≤ℤ slice_index_or numbers n (pos 0)) × (slice_index_or numbers n (pos 0) ≤ℤ greatest)

-- each number, also that of a null, is a value of the type
abbrev pub NumbersFit : ColType → List ℤ → Type 0
NumbersFit t numbers = AreBetween (least_of t) (greatest_of t) numbers

-- the null rows of a number of rows from one on, as a mask
abbrev pub is_null_from : ArrayForm → ℕ → ℕ → ℕ → Bool
is_null_from a first rows n = nat_lt n rows && not (is_valid a (first + n))
