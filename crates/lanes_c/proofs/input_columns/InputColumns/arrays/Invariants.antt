-- The columns before are given.
use Rattle.std.proofs.Common.{◌≡◌, map}
use Rattle.std.specs.List.{range_with_len}
use Rattle.lanes_c.specs.InputColumns.{column_array}
use Rattle.lanes_c.proofs.input_columns.InputColumns.arrays.Given as goal

abbrev pub invariant-loop-column : goal.invariant-loop-column
invariant-loop-column l = l.arrays.items ≡ map (column_array l.self l.first l.count) (range_with_len 0 l.column)
