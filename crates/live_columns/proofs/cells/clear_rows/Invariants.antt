-- The first rows are cleared.
use Rattle.std.proofs.Common.{◌≡◌, ◌<◌, ℕ, cond, nat_lt, ◌&&◌, get_or, pos}
use Rattle.transpose_order.specs.Mask.{has}
use Rattle.live_columns.proofs.cells.clear_rows.Given as goal

abbrev pub invariant-loop-row : goal.invariant-loop-row
invariant-loop-row l = (n : ℕ) → n < 1024 → get_or l.numbers n (pos 0) ≡ cond (nat_lt n l.row && has l.rows n) (pos 0) (get_or l.initial.numbers n (pos 0))
