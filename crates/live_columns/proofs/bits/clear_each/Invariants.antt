-- The nulls of the first rows are cleared.
use Rattle.std.proofs.Common.{◌≡◌, ◌+◌, ◌++◌, ℕ, Bool, List, length}
use Rattle.transpose_order.specs.Mask.{has}
use Rattle.live_columns.specs.Bits.{AreMarked}
use Rattle.live_columns.proofs.Picked.{picked_below}
use Rattle.live_columns.proofs.bits.clear_each.Given as goal

abbrev pub invariant-loop-row : goal.invariant-loop-row
invariant-loop-row l =
    record {
      cell : l.cell ≡ l.first + length (picked_below l.row l.rows (has l.nulls));
      marked : (before : ℕ → ℕ) (cells : List Bool) → length cells ≡ l.first → AreMarked before cells l.initial.valid → AreMarked before (cells ++ picked_below l.row l.rows (has l.nulls)) l.valid;
    }
