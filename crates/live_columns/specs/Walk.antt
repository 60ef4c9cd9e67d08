-- The rows of one vector, and of one batch, that are chosen.
use Rattle.std.specs.Prelude.{ℕ, List, filter, Option}
use Rattle.table_model.specs.Formula.{Formula}
use Rattle.table_model.specs.Meaning.{at_row, is_kept}
use Rattle.table_model.specs.State.{State, Cells}
use Rattle.table_model.specs.Table.{Table}
use Rattle.table_model.specs.declared.names.RowName.{RowName}
use Rattle.query_eval.specs.Kept.{batch_rows, kept_mask}
use Rattle.query_eval.specs.Vector.{vector_of}
use Rattle.query_eval.specs.declared.columns.VectorId.{VectorId}
use Rattle.live_columns.specs.Chosen.{picked, named_at}

-- the rows of a vector that aren't deleted and at which a condition is true, with their names
abbrev pub kept_of : Table → Option Formula → State → VectorId → List (RowName × Cells)
kept_of table condition s id = picked (kept_mask table condition (vector_of s id)) (named_at s id)

-- the same of a batch
abbrev pub rows_of_batch : Table → Option Formula → State → ℕ → List (RowName × Cells)
rows_of_batch table condition s batch = filter (λ (row : RowName × Cells). is_kept condition (at_row table.columns row.1)) (batch_rows s batch)
