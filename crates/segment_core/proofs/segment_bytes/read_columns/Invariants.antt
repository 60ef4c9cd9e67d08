use Rattle.std.proofs.Common.{◌≡◌, ◌-◌, [], length, map, take, slice_index_or}
use Rattle.table_model.specs.Table.{bits_of, ColumnShape}
use Rattle.segment_core.specs.Segment.{widths_in}
use Rattle.segment_core.specs.Format.{read_all}
use Rattle.segment_core.specs.SegmentBytes.{column}
use Rattle.segment_core.proofs.SegmentReading.{AreColumns}
use Rattle.segment_core.proofs.segment_bytes.read_columns.Given as goal

abbrev pub invariant-loop-shape : goal.invariant-loop-shape
invariant-loop-shape l =
    let widths = map (λ (shape : ColumnShape). bits_of shape.column_type) l.shapes in
    record {
      read : read_all (λ front. column (slice_index_or widths (length front) 0) l.rows) (length widths - l.shape-index) l.read.items l.total l.rest
          ≡ read_all (λ front. column (slice_index_or widths (length front) 0) l.rows) (length widths) [] l.total l.bytes;
      count : length l.read.items ≡ l.shape-index;
      columns : AreColumns l.rows l.read.items;
      lanes : widths_in l.read.items ≡ take l.shape-index widths;
    }
