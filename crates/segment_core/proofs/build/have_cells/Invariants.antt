-- The columns so far have the rows' cells.
use Rattle.std.proofs.Common.{◌≡◌, ℕ, ◌<◌, List, slice_get, Some}
use Rattle.segment_core.specs.CodedVector.{VectorForm}
use Rattle.segment_core.specs.Segment.{HasCellsOf, column_cells}
use Rattle.segment_core.proofs.build.have_cells.Given as goal

abbrev pub invariant-loop-column : goal.invariant-loop-column
invariant-loop-column l = (c : ℕ) (vectors : List VectorForm) → c < l.column → slice_get l.columns c ≡ Some vectors → HasCellsOf vectors (column_cells l.rows c)
