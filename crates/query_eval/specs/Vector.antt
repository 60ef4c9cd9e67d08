-- A state as vectors of up to 1024 rows, batch by batch in ascending order of name.
use Rattle.std.specs.Prelude.{ℕ, ◌+◌, ◌*◌, ◌/◌, ◌<◌, ◌≤◌, Bool, ◌&&◌, not, nat_lt, cond, List, [], length, take, drop, slice_index_or, Option, None, ℤ}
use Rattle.std.specs.FinMap as finite
use Rattle.std.specs.FinSet as set
use Rattle.table_model.specs.Group.{cell, state_row_limit}
use Rattle.table_model.specs.State.{Cells, Batch, State, named_rows}
use Rattle.table_model.specs.Table.{Table, IsBatch}
use Rattle.table_model.specs.Values.{present}
use Rattle.table_model.specs.declared.names.BatchName.{BatchName}
use Rattle.transpose_order.specs.Mask.{rows_of, has}
use Rattle.query_eval.specs.declared.columns.VectorId.{VectorId}

-- a vector: up to 1024 rows, and which of their places are deleted
pub record Vector : Type 0 where
  pub rows : List Cells
  pub deleted : ℕ → Bool

-- the row at a place, without a cell where there is none
abbrev pub row_at : Vector → ℕ → Cells
row_at v n = slice_index_or v.rows n []

-- whether the vector has a row at the place that isn't deleted
abbrev pub is_live : Vector → ℕ → Bool
is_live v n = nat_lt n (length v.rows) && not (v.deleted n)

-- the cell of a column at a place
abbrev pub cell_at : Vector → ℕ → ℕ → Option ℤ
cell_at v column n = cell (row_at v n) column

-- the values of a column at the rows of a mask, without the nulls, in row order
unfoldable pub looked_at : Vector → ℕ → List Bool → List ℤ
looked_at v column mask = present (rows_of (λ n. cond (has mask n) (cell_at v column n) None))

-- a batch with its name, in ascending order of name and from 0 on; past the last a batch without rows
unfoldable pub batch_at : State → ℕ → BatchName × Batch
batch_at s i = slice_index_or (finite.entries s.batches) i (record { origin = record { 0 = 0 }; number = record { 0 = 0 } }, [])

-- how many batches there are
abbrev pub batch_count : State → ℕ
batch_count s = length (finite.entries s.batches)

-- how many vectors a batch has
abbrev pub vector_count : State → ℕ → ℕ
vector_count s i = (length (batch_at s i).1 + 1023) / 1024

-- a vector of a batch, from 0 on
unfoldable pub vector_at : State → ℕ → ℕ → Vector
vector_at s i v = record {
  rows = take 1024 (drop (1024 * v) (batch_at s i).1);
  deleted = λ n. set.contains s.deleted (record { batch = (batch_at s i).0; ordinal = 1024 * v + n });
}

-- a vector of a state by its batch and its place there
abbrev pub vector_of : State → VectorId → Vector
vector_of s id = vector_at s id.batch id.vector

-- there is a vector with these indexes
pub record IsThere (s : State) (batch vector : ℕ) : Type 0 where
  pub batches : batch < batch_count s
  pub vectors : vector < vector_count s batch

-- a state within the limits of a table: each batch is one of the table's, and there are no more rows than a state may have
pub record IsWithin (table : Table) (s : State) : Type 0 where
  pub batches : (i : ℕ) → i < batch_count s → IsBatch table (batch_at s i).1
  pub rows : length (named_rows s) ≤ state_row_limit
