-- Keys of a vector's rows, as the grouping columns give them.
use Rattle.std.specs.Prelude.{◌≡◌, ℕ, ◌<◌, ◌≤◌, ◌∷◌, [], cond, List, map, slice_index_or, Option, Some, None, ℤ, pos, ◌<ℤ◌, Bool, true}
use Rattle.table_model.specs.Group.{key_of}
use Rattle.table_model.specs.State.{Cells}
use Rattle.transpose_order.specs.Mask.{has}
use Rattle.query_eval.specs.Coded.{cell_of_code, run_at}
use Rattle.query_eval.specs.Places.{ArePlaced, IsIndex}
use Rattle.query_eval.specs.Slices.{AreSliced, IsSplit, code_limit}
use Rattle.query_eval.specs.Vector.{Vector, row_at}
use Rattle.query_eval.specs.declared.grouping.key_columns.KeyColumn.{KeyColumn}
use Rattle.query_eval.specs.declared.grouping.places.Places.{Places}
use Rattle.query_eval.specs.declared.grouping.split.Slice.{Slice}
use Rattle.query_eval.specs.declared.grouping.split.Split.{Split}
use Rattle.query_eval.specs.declared.grouping.vector_keys.VectorKeys.{VectorKeys}
use Rattle.query_eval.specs.declared.grouping.vector_keys.VectorKeys.TheVariants.{Runs, Codes, Columns}

-- the cell of a decoded column at a row
abbrev pub key_cell : KeyColumn → ℕ → Option ℤ
key_cell column n = cond (has column.nulls n) None (Some (slice_index_or column.values n (pos 0)))

-- the key of a row by its cells in the decoded columns
abbrev pub column_key : List KeyColumn → ℕ → Cells
column_key columns n = map (λ column. key_cell column n) columns

-- the key of a row by the value of its run
abbrev pub run_key : List Bool → List ℤ → ℕ → Cells
run_key starts values n = Some (slice_index_or values (run_at starts n) (pos 0)) ∷ []

-- the key of a row by what its code represents
abbrev pub code_key : ℕ → List ℤ → List ℕ → ℕ → Cells
code_key count values codes n = cell_of_code count values (slice_index_or codes n 0) ∷ []

-- the key of a row by its run, its code or the decoded columns
abbrev pub key_read : VectorKeys → List KeyColumn → List ℤ → List ℕ → ℕ → Cells
key_read (Runs starts) columns values codes = run_key starts values
key_read (Codes count) columns values codes = code_key count values codes
key_read Columns columns values codes = column_key columns

-- each row of a mask has, in the grouping columns of a vector, the key that is said
abbrev pub AreKeys : List ℕ → Vector → List Bool → (ℕ → Cells) → Type 0
AreKeys by v mask keys = (n : ℕ) → n < 1024 → has mask n ≡ true → keys n ≡ key_of by (row_at v n)

-- whatever the grouping columns and the vector in which the rows of a mask have these keys, they are sliced by them
abbrev pub IsSlicing : (ℕ → Cells) → List Bool → List Bool → Places → Places → List Slice → Type 0
IsSlicing keys mask left old new slices = (by : List ℕ) (v : Vector) → AreKeys by v mask keys → IsIndex old → AreSliced by v mask left old.index.entries new.index.entries slices

-- whatever the grouping columns and the vector in which the rows of a mask have these keys, they are split by them
abbrev pub IsSplitting : (ℕ → Cells) → List Bool → Places → Places → Split → Type 0
IsSplitting keys mask old new split = (by : List ℕ) (v : Vector) → AreKeys by v mask keys → IsIndex old → IsSplit by v mask old.index.entries new.index.entries split

-- whatever the grouping columns and the vector in which the rows of a mask have these keys, they have the places of them
abbrev pub IsPlacing : (ℕ → Cells) → List Bool → Places → Places → List ℕ → Type 0
IsPlacing keys mask old new out = (by : List ℕ) (v : Vector) → AreKeys by v mask keys → IsIndex old → ArePlaced 1024 by v mask old.index.entries new.index.entries out

-- codes are few enough to slice by, each of 1024 rows has one up to the count, and the values below it rise
pub record AreFewCodes (count : ℕ) (codes : List ℕ) (values : List ℤ) : Type 0 where
  pub few : count < code_limit
  pub within : (n : ℕ) → n < 1024 → slice_index_or codes n 0 ≤ count
  pub rises : (i j : ℕ) → i < j → j < count → slice_index_or values i (pos 0) <ℤ slice_index_or values j (pos 0)
