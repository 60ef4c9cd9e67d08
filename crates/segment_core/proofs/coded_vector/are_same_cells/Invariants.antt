-- The cells so far are the same.
use Rattle.std.proofs.Common.{◌≡◌, ℕ, ◌<◌}
use Rattle.segment_core.specs.Fill.{cell_under}
use Rattle.segment_core.proofs.coded_vector.are_same_cells.Given as goal

abbrev pub invariant-loop-row : goal.invariant-loop-row
invariant-loop-row l = (n : ℕ) → n < l.row → cell_under l.nulls l.values n ≡ cell_under l.other_nulls l.others n
