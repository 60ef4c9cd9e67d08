-- The rows so far are copied.
use Rattle.std.proofs.Common.{◌≡◌, take}
use Rattle.table_model.proofs.rows.Rows.copy_of.Given as goal

abbrev pub invariant-loop-row : goal.invariant-loop-row
invariant-loop-row l = l.batch ≡ take l.row-index l.rows
