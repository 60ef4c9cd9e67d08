-- The cells so far are the column's.
use Rattle.std.proofs.Common.{◌≡◌, ℕ, ◌+◌, ◌<◌, None, [], get_or}
use Rattle.table_model.proofs.rows.Rows.read_column.Given as goal

abbrev pub invariant-loop-n : goal.invariant-loop-n
invariant-loop-n l = (k : ℕ) → k < l.n → get_or l.cells k None ≡ get_or (get_or l.self (l.first + k) []) l.column None
