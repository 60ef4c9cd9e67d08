-- The cells of the columns before are written.
use Rattle.std.proofs.Common.{◌≡◌, map, length, take}
use Rattle.segment_core.specs.Arrays.{ArrayForm, array_cell}
use Rattle.segment_core.proofs.arrays.write_row.Given as goal

abbrev pub invariant-loop-column : goal.invariant-loop-column
invariant-loop-column l = record {
  count : length l.cells ≡ length l.arrays;
  filled : take l.column l.cells ≡ map (λ (a : ArrayForm). array_cell a l.row) (take l.column l.arrays);
}
