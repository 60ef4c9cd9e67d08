use Rattle.std.proofs.Common.{◌≡◌, ◌-◌, [], length}
use Rattle.segment_core.specs.Format.{read_all}
use Rattle.segment_core.specs.VectorBytes.{vector}
use Rattle.segment_core.specs.Segment.{vector_count, rows_in}
use Rattle.segment_core.proofs.SegmentReading.{AreVectors}
use Rattle.segment_core.proofs.segment_bytes.read_column.Given as goal

abbrev pub invariant-loop-k : goal.invariant-loop-k
invariant-loop-k l = record {
  read : read_all (λ front. vector l.lane_width (rows_in l.rows (length front))) (vector_count l.rows - l.k) l.vectors.items l.total l.rest
      ≡ read_all (λ front. vector l.lane_width (rows_in l.rows (length front))) (vector_count l.rows) [] l.total l.bytes;
  count : length l.vectors.items ≡ l.k;
  vectors : AreVectors l.lane_width l.rows l.vectors.items;
}
