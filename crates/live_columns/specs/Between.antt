-- The live rows of some of a state's batches, and their vectors that have one.
use Rattle.std.specs.Prelude.{◌≡◌, ℕ, zero, suc, ◌+◌, not, List, filter, take, drop, Option}
use Rattle.std.specs.List.{flat_map}
use Rattle.std.specs.FinMap as map
use Rattle.std.specs.FinSet as set
use Rattle.table_model.specs.Formula.{Formula}
use Rattle.table_model.specs.Meaning.{at_row, is_kept}
use Rattle.table_model.specs.State.{Batch, Cells, State, named_from}
use Rattle.table_model.specs.Table.{Table}
use Rattle.table_model.specs.declared.names.BatchName.{BatchName}
use Rattle.table_model.specs.declared.names.RowName.{RowName}
use Rattle.query_eval.specs.Kept.{live_vectors_in}

-- some of a state's batches, in ascending order of name: from a place on, at most a number of them
abbrev pub batches_between : State → ℕ → ℕ → List (BatchName × Batch)
batches_between s first count = take count (drop first (map.entries s.batches))

-- all rows of batches, with their names
abbrev pub rows_of_batches : List (BatchName × Batch) → List (RowName × Cells)
rows_of_batches es = flat_map (λ (e : BatchName × Batch). named_from e.0 0 e.1) es

-- the live rows of some batches, in ascending order of row name
abbrev pub live_between : State → ℕ → ℕ → List (RowName × Cells)
live_between s first count = filter (λ (row : RowName × Cells). not (set.contains s.deleted row.0)) (rows_of_batches (batches_between s first count))

-- the live rows of some batches at which a condition is true, in order of row name; without a condition all their live rows
abbrev pub rows_between : Table → Option Formula → State → ℕ → ℕ → List (RowName × Cells)
rows_between table condition s first count = filter (λ (row : RowName × Cells). is_kept condition (at_row table.columns row.1)) (live_between s first count)

-- how many vectors of some batches have a row that isn't deleted; past the last batch there is none
unfoldable pub live_vectors_between : State → ℕ → ℕ → ℕ
live_vectors_between s first zero = 0
live_vectors_between s first (suc count) = live_vectors_between s first count + live_vectors_in s (first + count)
