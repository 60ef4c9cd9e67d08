-- The rows before are made.
use Rattle.std.proofs.Common.{◌≡◌, map, length}
use Rattle.std.specs.List.{range_with_len}
use Rattle.segment_core.specs.Arrays.{array_row}
use Rattle.segment_core.proofs.arrays.rows_of_arrays.Given as goal

abbrev pub invariant-loop-row : goal.invariant-loop-row
invariant-loop-row l = record {
  count : length l.cells.items ≡ length l.arrays;
  made : l.made ≡ map (array_row l.arrays) (range_with_len 0 l.row);
}
