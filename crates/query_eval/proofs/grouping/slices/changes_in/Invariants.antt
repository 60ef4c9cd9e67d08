-- The rows where the cells in the columns so far may differ from those of the row before.
use Rattle.std.proofs.Common.{◌≡◌, ◌+◌, ◌<◌, ℕ, false, map, take}
use Rattle.transpose_order.specs.Mask.{has}
use Rattle.query_eval.specs.Keys.{key_cell}
use Rattle.query_eval.proofs.grouping.slices.changes_in.Given as goal

abbrev pub invariant-loop-column : goal.invariant-loop-column
invariant-loop-column l = (n : ℕ) → n + 1 < 1024 → has l.changes (n + 1) ≡ false → map (λ column. key_cell column (n + 1)) (take l.column-index l.columns) ≡ map (λ column. key_cell column n) (take l.column-index l.columns)
