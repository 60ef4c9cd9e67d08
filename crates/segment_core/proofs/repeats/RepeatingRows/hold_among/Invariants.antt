-- The rows so far repeat.
use Rattle.std.proofs.Common.{◌≡◌, ℕ, ◌-◌, ◌<◌, true}
use Rattle.transpose_order.specs.Mask.{has}
use Rattle.bit_interleave.specs.Range.{value_at}
use Rattle.segment_core.proofs.repeats.RepeatingRows.hold_among.Given as goal

abbrev pub invariant-loop-row : goal.invariant-loop-row
invariant-loop-row l =
    (n : ℕ) → 0 < n → n < l.row → has l.self.rows n ≡ true → value_at l.values n ≡ value_at l.values (n - 1)
