-- The vectors so far have the column's cells.
use Rattle.std.proofs.Common.{◌≡◌, ℕ, ◌<◌, slice_get, Some}
use Rattle.segment_core.specs.CodedVector.{VectorForm, cells_of}
use Rattle.segment_core.specs.Segment.{column_cells, cells_in}
use Rattle.segment_core.proofs.build.has_cells.Given as goal

abbrev pub invariant-loop-k : goal.invariant-loop-k
invariant-loop-k l = (j : ℕ) (v : VectorForm) → j < l.k → slice_get l.vectors j ≡ Some v → cells_of v ≡ cells_in (column_cells l.rows l.column) j
