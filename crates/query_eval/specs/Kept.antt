-- The rows that a query keeps: those that aren't deleted and at which WHERE is true.
use Rattle.std.specs.Prelude.{ℕ, zero, suc, ◌+◌, ◌==◌, ◌≤◌, Bool, ◌&&◌, not, cond, List, map, filter, length, count_by, Option, Some, None}
use Rattle.std.specs.FinSet as set
use Rattle.table_model.specs.Group.{state_row_limit}
use Rattle.table_model.specs.Formula.{Formula}
use Rattle.table_model.specs.Meaning.{at_row, is_kept}
use Rattle.table_model.specs.State.{Cells, State, named_from, live_rows}
use Rattle.table_model.specs.Table.{Table, AreRows}
use Rattle.table_model.specs.Values.{present}
use Rattle.table_model.specs.declared.names.BatchName.{BatchName}
use Rattle.table_model.specs.declared.names.RowName.{RowName}
use Rattle.transpose_order.specs.Mask.{rows_of, has, count_below}
use Rattle.query_eval.specs.Mentions.{condition_mentions}
use Rattle.query_eval.specs.Vector.{Vector, vector_at, row_at, is_live, batch_at, batch_count, vector_count}

-- how many columns WHERE mentions, none where it is absent
abbrev pub where_mentions : Option Formula → ℕ
where_mentions None = 0
where_mentions (Some condition) = condition_mentions condition

-- the rows of a vector that aren't deleted and at which WHERE is true
unfoldable pub kept_mask : Table → Option Formula → Vector → List Bool
kept_mask table filter v = rows_of (λ n. is_live v n && is_kept filter (at_row table.columns (row_at v n)))

-- whether a vector has a row that isn't deleted
unfoldable pub has_live : Vector → Bool
has_live v = not (count_by (λ live. live) (rows_of (is_live v)) == 0)

-- how many of a batch's vectors have a row that isn't deleted
abbrev pub live_vectors_in : State → ℕ → ℕ
live_vectors_in s batch = count_below (λ vector. has_live (vector_at s batch vector)) (vector_count s batch)

-- how many vectors of the first batches have one
unfoldable pub live_vectors_below : State → ℕ → ℕ
live_vectors_below s zero = 0
live_vectors_below s (suc batch) = live_vectors_below s batch + live_vectors_in s batch

-- how many vectors of a state have one
abbrev pub live_vectors : State → ℕ
live_vectors s = live_vectors_below s (batch_count s)

-- a state's rows that aren't deleted, in ascending order of row name
abbrev pub rows_alive : State → List Cells
rows_alive s = map (λ (row : RowName × Cells). row.1) (live_rows s)

-- a batch's rows that aren't deleted, in order of ordinal
unfoldable pub batch_alive : State → ℕ → List Cells
batch_alive s batch = map (λ (row : RowName × Cells). row.1) (filter (λ (row : RowName × Cells). not (set.contains s.deleted row.0)) (named_from (batch_at s batch).0 0 (batch_at s batch).1))

-- the rows at which WHERE is true
abbrev pub rows_kept : Table → Option Formula → List Cells → List Cells
rows_kept table condition rows = filter (λ row. is_kept condition (at_row table.columns row)) rows

-- a batch's rows that aren't deleted, with their names
unfoldable pub batch_rows : State → ℕ → List (RowName × Cells)
batch_rows s batch = filter (λ (row : RowName × Cells). not (set.contains s.deleted row.0)) (named_from (batch_at s batch).0 0 (batch_at s batch).1)

-- the names of the rows at which WHERE is true
abbrev pub names_kept : Table → Option Formula → List (RowName × Cells) → List RowName
names_kept table condition rows = map (λ (row : RowName × Cells). row.0) (filter (λ (row : RowName × Cells). is_kept condition (at_row table.columns row.1)) rows)

-- the names of the rows of a mask, in order, where the first place has this ordinal
unfoldable pub names_at : BatchName → ℕ → List Bool → List RowName
names_at name first mask = present (rows_of (λ n. cond (has mask n) (Some (record { batch = name; ordinal = first + n })) None))

-- the rows of a mask in a vector, in order
unfoldable pub rows_at : Vector → List Bool → List Cells
rows_at v mask = present (rows_of (λ n. cond (has mask n) (Some (row_at v n)) None))

-- the rows of a vector that aren't deleted and at which WHERE is true, in order
abbrev pub vector_kept : Table → Option Formula → Vector → List Cells
vector_kept table condition v = rows_at v (kept_mask table condition v)

-- no more rows than a state may have, each a row of the table
pub record AreFew (table : Table) (rows : List Cells) : Type 0 where
  pub fit : AreRows table.columns rows
  pub few : length rows ≤ state_row_limit
