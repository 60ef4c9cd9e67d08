-- The rows with the same cells in the columns so far.
use Rattle.std.proofs.Common.{◌≡◌, ◌<◌, ◌&&◌, ℕ, map, take}
use Rattle.table_model.specs.State.{same_cells}
use Rattle.transpose_order.specs.Mask.{has}
use Rattle.query_eval.specs.Keys.{key_cell}
use Rattle.query_eval.proofs.grouping.slices.rows_like.Given as goal

abbrev pub invariant-loop-column : goal.invariant-loop-column
invariant-loop-column l = (n : ℕ) → n < 1024 → has l.rows n ≡ (has l.mask n && same_cells (map (λ column. key_cell column l.row) (take l.column-index l.columns)) (map (λ column. key_cell column n) (take l.column-index l.columns)))
