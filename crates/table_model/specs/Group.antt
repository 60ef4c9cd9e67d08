-- Groups of rows by their cells in some columns.
use Rattle.std.specs.Prelude.{◌≡◌, ℕ, ◌≤◌, ◌*◌, ◌^◌, List, [], ◌∷◌, map, filter, length, slice_index_or, sum_by, All, AllPairs, Option, None, ℤ, pos, neg_ℤ, ◌≤ℤ◌, ◌*ℤ◌, FitsSigned}
use Rattle.std.specs.List.{flat_map}
use Rattle.std.specs.List.Sorted.{IsPermutation}
use Rattle.std.specs.Cmp.Lexicographic.{slice_cmp}
use Rattle.std.specs.FinMap as finite
use Rattle.std.specs.Int.{w128}
use Rattle.std.specs.Option.{option_cmp}
use Rattle.std.specs.Ordering.{int_cmp}
use Rattle.std.specs.declared.cmp.Ordering.{Ordering}
use Rattle.std.specs.declared.cmp.Ordering.TheVariants.{Less}
use Rattle.table_model.specs.State.{Cells, same_cells}
use Rattle.table_model.specs.Table.{ColumnShape, AreRows}
use Rattle.table_model.specs.Values.{present, distinct, total}

-- a row's cell in a column, from 0 on; past its end null, of which no resolved query asks
abbrev pub cell : Cells → ℕ → Option ℤ
cell row column = slice_index_or row column None

-- the values of some rows in a column, without the nulls
unfoldable pub values_in : ℕ → List Cells → List ℤ
values_in column rows = present (map (λ row. cell row column) rows)

-- a row's keys: its cells in the grouping columns
abbrev pub key_of : List ℕ → Cells → Cells
key_of by row = map (cell row) by

-- keys are compared from the left, null before every number
abbrev pub key_cmp : Cells → Cells → Ordering
key_cmp = slice_cmp (option_cmp int_cmp)

-- a group: the keys that its rows have, and these rows
pub record Group : Type 0 where
  pub key : Cells
  pub rows : List Cells

-- the rows that have the keys, null being equal to null
unfoldable pub rows_with : List ℕ → List Cells → Cells → List Cells
rows_with by rows key = filter (λ row. same_cells key (key_of by row)) rows

-- the set of the keys that occur, as a map with nothing at each of them
unfoldable pub keys_in : List ℕ → List Cells → finite.FinMap key_cmp (Unit {0})
keys_in by rows = finite.from_entries (map (λ row. (key_of by row, tt)) rows)

-- the group of the rows that have the keys
abbrev pub group_at : List ℕ → List Cells → Cells → Group
group_at by rows key = record { key = key; rows = rows_with by rows key }

-- the groups: without grouping columns one of all rows, also of none; else one for each list of keys that occurs, in ascending order
unfoldable pub groups_of : List ℕ → List Cells → List Group
groups_of [] rows = record { key = []; rows = rows } ∷ []
groups_of (column ∷ by) rows = map (group_at (column ∷ by) rows) (finite.keys (keys_in (column ∷ by) rows))

-- the keys of some groups ascend strictly, so that no two groups have the same
abbrev pub AreAscending : List Group → Type 0
AreAscending groups = AllPairs (λ a b. key_cmp a.key b.key ≡ Less) groups

-- the groups part the rows, each row standing in the group of its keys, so that their counts and sums add up to those of all rows
pub record GroupLaws : Type 0 where
  pub parts : (by : List ℕ) (rows : List Cells) → IsPermutation rows (flat_map (λ group. group.rows) (groups_of by rows))
  pub keys : (by : List ℕ) (rows : List Cells) → All (λ group. All (λ row. key_of by row ≡ group.key) group.rows) (groups_of by rows)
  pub ascending : (by : List ℕ) (rows : List Cells) → AreAscending (groups_of by rows)
  pub some : (column : ℕ) (by : List ℕ) (rows : List Cells) → All (λ group. 1 ≤ length group.rows) (groups_of (column ∷ by) rows)
  pub counts : (by : List ℕ) (rows : List Cells) → sum_by (λ group. length group.rows) (groups_of by rows) ≡ length rows
  pub sums : (by : List ℕ) (rows : List Cells) (column : ℕ) → total (map (λ group. total (values_in column group.rows)) (groups_of by rows)) ≡ total (values_in column rows)

-- the number's magnitude is at most n
abbrev pub IsWithin : ℕ → ℤ → Type 0
IsWithin n z = (neg_ℤ (pos n) ≤ℤ z) × (z ≤ℤ pos n)

-- how many rows a state may have
abbrev pub state_row_limit : ℕ
state_row_limit = 2 ^ 36

-- the greatest magnitude that a sum over a state's rows may have
abbrev pub sum_limit : ℕ
sum_limit = 2 ^ 99

-- a sum over n rows of a table has magnitude at most n * 2^63, with DISTINCT too; so over as many rows as a state may have it is at most 2^99, and in millionths it fits 128 bits
pub record SumBounds : Type 0 where
  pub sums : (columns : List ColumnShape) (rows : List Cells) (column : ℕ) → AreRows columns rows → IsWithin (length rows * 2 ^ 63) (total (values_in column rows))
  pub once : (columns : List ColumnShape) (rows : List Cells) (column : ℕ) → AreRows columns rows → IsWithin (length rows * 2 ^ 63) (total (distinct (values_in column rows)))
  pub limit : (n : ℕ) (z : ℤ) → n ≤ state_row_limit → IsWithin (n * 2 ^ 63) z → IsWithin sum_limit z
  pub millionths : (z : ℤ) → IsWithin sum_limit z → FitsSigned w128 (z *ℤ pos 1000000)
