-- The columns so far are the canonical ones.
use Rattle.std.proofs.Common.{◌≡◌, map, get_or}
use Rattle.std.specs.List.{range_with_len}
use Rattle.segment_core.specs.Arrays.{array_rows}
use Rattle.segment_core.specs.Segment.{column_cells, canonical_column, widths_of}
use Rattle.segment_core.proofs.arrays.canonical_arrays.Given as goal

abbrev pub invariant-loop-column : goal.invariant-loop-column
invariant-loop-column l = l.made.items ≡ map (λ c. canonical_column (get_or (widths_of l.schema) c 0) (column_cells (array_rows l.rows l.arrays) c)) (range_with_len 0 l.column)
