-- The rows that are asked for, as vectors with a mask each.
use Rattle.std.specs.Prelude.{◌≡◌, ℕ, ◌+◌, ◌*◌, ◌≤◌, Bool, cond, List, map, filter, length, slice_index_or, Option, Some, None, ℤ, pos}
use Rattle.std.specs.List.{All, flat_map}
use Rattle.table_model.specs.Formula.{Formula}
use Rattle.table_model.specs.Group.{cell, state_row_limit}
use Rattle.table_model.specs.Meaning.{at_row, is_kept}
use Rattle.table_model.specs.State.{State, Cells, live_rows}
use Rattle.table_model.specs.Table.{Table}
use Rattle.table_model.specs.Values.{present}
use Rattle.table_model.specs.declared.names.RowName.{RowName}
use Rattle.transpose_order.specs.Mask.{rows_of, has}
use Rattle.query_eval.specs.Vector.{IsThere, batch_at, row_at, vector_of}
use Rattle.query_eval.specs.declared.filter.kept_rows.KeptVector.{KeptVector}
use Rattle.query_eval.specs.declared.columns.VectorId.{VectorId}
use Rattle.live_columns.specs.declared.chosen.ChosenRows.{ChosenRows}

-- the live rows at which a condition is true, in order of row name; without a condition all live rows
unfoldable pub rows_where : Table → Option Formula → State → List (RowName × Cells)
rows_where table condition s = filter (λ (row : RowName × Cells). is_kept condition (at_row table.columns row.1)) (live_rows s)

-- the cells of a column at some rows
abbrev pub cells_in : ℕ → List (RowName × Cells) → List (Option ℤ)
cells_in column rows = map (λ (row : RowName × Cells). cell row.1 column) rows

-- the cells of columns by their places, column by column
abbrev pub columns_in : List ℕ → List (RowName × Cells) → List (List (Option ℤ))
columns_in places rows = map (λ place. cells_in place rows) places

-- what is at the rows of a mask, in order
abbrev pub picked : {X : Type 0} → List Bool → (ℕ → X) → List X
picked mask item = present (rows_of (λ n. cond (has mask n) (Some (item n)) None))

-- the numbers at the rows of a mask
abbrev pub numbers_at : List Bool → List ℤ → List ℤ
numbers_at mask numbers = picked mask (λ n. slice_index_or numbers n (pos 0))

-- the row at a place of a vector, with its name
abbrev pub named_at : State → VectorId → ℕ → RowName × Cells
named_at s id n = (record { batch = (batch_at s id.batch).0; ordinal = 1024 * id.vector + n }, row_at (vector_of s id) n)

-- the rows of a vector that are kept, with their names
unfoldable pub kept_in : State → KeptVector → List (RowName × Cells)
kept_in s kept = picked kept.rows (named_at s kept.id)

-- the same of several vectors, one after another
abbrev pub rows_in : State → List KeptVector → List (RowName × Cells)
rows_in s vectors = flat_map (kept_in s) vectors

-- a vector of a state with a mask over its 1024 places
pub record IsMasked (s : State) (kept : KeptVector) : Type 0 where
  pub there : IsThere s kept.id.batch kept.id.vector
  pub mask : length kept.rows ≡ 1024

-- vectors of a state with a mask each
abbrev pub AreThere : State → List KeptVector → Type 0
AreThere s vectors = All (IsMasked s) vectors

-- vectors with these rows, and how many rows they are
pub record IsChosen (s : State) (rows : List (RowName × Cells)) (chosen : ChosenRows) : Type 0 where
  pub there : AreThere s chosen.vectors.items
  pub are : rows_in s chosen.vectors.items ≡ rows
  pub count : chosen.count ≡ length rows
  pub few : chosen.count ≤ state_row_limit
