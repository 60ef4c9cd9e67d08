use Rattle.std.proofs.Common.{◌≡◌, ◌-◌, length, map, slice_index_or}
use Rattle.table_model.specs.Table.{bits_of, ColumnShape}
use Rattle.column_file.specs.Passing.{over_each, over_column}
use Rattle.column_file.proofs.passing.over_columns.Given as goal

abbrev pub invariant-loop-shape : goal.invariant-loop-shape
invariant-loop-shape l =
    let widths = map (λ (shape : ColumnShape). bits_of shape.column_type) l.shapes in
    over_each (λ at. over_column (slice_index_or widths at 0) l.rows) (length widths - l.shape-index) l.shape-index l.total l.rest
    ≡ over_each (λ at. over_column (slice_index_or widths at 0) l.rows) (length widths) 0 l.total l.bytes
