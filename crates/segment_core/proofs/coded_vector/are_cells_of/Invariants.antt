-- The cells so far are those that are asked for.
use Rattle.std.proofs.Common.{◌≡◌, ℕ, ◌<◌, get_or, None}
use Rattle.segment_core.specs.Fill.{cell_under}
use Rattle.segment_core.proofs.coded_vector.are_cells_of.Given as goal

abbrev pub invariant-loop-row : goal.invariant-loop-row
invariant-loop-row l = (n : ℕ) → n < l.row → cell_under l.nulls l.values n ≡ get_or l.cells n None
