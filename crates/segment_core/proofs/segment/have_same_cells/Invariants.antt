-- The columns so far have the same cells.
use Rattle.std.proofs.Common.{◌≡◌, ℕ, ◌<◌, List, slice_get, Some}
use Rattle.segment_core.specs.CodedVector.{VectorForm}
use Rattle.segment_core.specs.Segment.{HaveSameCells}
use Rattle.segment_core.proofs.segment.have_same_cells.Given as goal

abbrev pub invariant-loop-column : goal.invariant-loop-column
invariant-loop-column l = (c : ℕ) (vectors ws : List VectorForm) → c < l.column → slice_get l.columns c ≡ Some vectors → slice_get l.others c ≡ Some ws → HaveSameCells vectors ws
