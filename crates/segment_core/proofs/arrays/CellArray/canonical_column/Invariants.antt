-- The vectors so far are the canonical ones of the first parts of the column's cells.
use Rattle.std.proofs.Common.{◌≡◌, map}
use Rattle.std.specs.List.{range_with_len}
use Rattle.segment_core.specs.Arrays.{array_cells}
use Rattle.segment_core.specs.CodedVector.{canonical_vector}
use Rattle.segment_core.specs.Segment.{cells_in}
use Rattle.segment_core.proofs.arrays.CellArray.canonical_column.Given as goal

abbrev pub invariant-loop-k : goal.invariant-loop-k
invariant-loop-k l = l.vectors.items ≡ map (λ k. canonical_vector l.lane_width (cells_in (array_cells l.self) k)) (range_with_len 0 l.k)
