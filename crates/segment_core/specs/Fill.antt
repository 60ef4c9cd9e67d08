-- The filled vector: a value for each of 1024 rows, whatever is null or absent.
use Rattle.std.specs.Prelude.{◌≡◌, ℕ, suc, ◌<◌, Bool, cond, ℤ, pos, FitsSigned, length, slice_index_or, List, [], ◌∷◌, map, take, Option, Some, None}
use Rattle.std.specs.List.{range_with_len}
use Rattle.table_model.specs.Values.{present}
use Rattle.transpose_order.specs.Mask.{rows_of, has}
use Rattle.bit_interleave.specs.Arithmetic.{integer_width}
use Rattle.bit_interleave.specs.Range.{value_at}

-- the first of some values, or another where there is none
abbrev pub first_or : ℤ → List ℤ → ℤ
first_or other [] = other
first_or other (value ∷ values) = value

-- the last of some values, or another where there is none
abbrev pub last_or : ℤ → List ℤ → ℤ
last_or other [] = other
last_or other (value ∷ values) = last_or value values

-- the last value among the cells up to row n; where there is none, the first value of all; where there is none, 0
unfoldable pub filled_at : List (Option ℤ) → ℕ → ℤ
filled_at cells n = last_or (first_or (pos 0) (present cells)) (present (take (suc n) cells))

-- the filled vector of some cells, 1024 at most
unfoldable pub filled : List (Option ℤ) → List ℤ
filled cells = rows_of (filled_at cells)

-- a cell that is null, or else a value
abbrev pub cell_or_null : Bool → ℤ → Option ℤ
cell_or_null null value = cond null None (Some value)

-- the cell at row n where a mask has the rows that are null, and values are at the others
abbrev pub cell_under : List Bool → List ℤ → ℕ → Option ℤ
cell_under nulls values n = cell_or_null (has nulls n) (value_at values n)

-- the cells of a number of rows where a mask has those that are null, and values are at the others
unfoldable pub cells_under : ℕ → List Bool → List ℤ → List (Option ℤ)
cells_under rows nulls values = map (cell_under nulls values) (range_with_len 0 rows)

-- each cell is null or in the range of t bits, signed
abbrev pub AreCellsInRange : ℕ → List (Option ℤ) → Type 0
AreCellsInRange t cells = (n : ℕ) (value : ℤ) → n < length cells → slice_index_or cells n None ≡ Some value → FitsSigned (integer_width t) value

-- a number of cells, each of which has the same value
pub record AreSame (rows : ℕ) (value : ℤ) (cells : List (Option ℤ)) : Type 0 where
  pub count : length cells ≡ rows
  pub each : (n : ℕ) → n < rows → slice_index_or cells n None ≡ Some value
