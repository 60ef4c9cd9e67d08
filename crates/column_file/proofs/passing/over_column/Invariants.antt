use Rattle.std.proofs.Common.{◌≡◌, ◌-◌}
use Rattle.segment_core.specs.Segment.{vector_count}
use Rattle.column_file.specs.Passing.{over_each, over_vector}
use Rattle.column_file.proofs.passing.over_column.Given as goal

abbrev pub invariant-loop : goal.invariant-loop
invariant-loop l =
    over_each (λ _. over_vector l.lane_width) (vector_count l.rows - l.counter) l.counter l.total l.rest ≡ over_each (λ _. over_vector l.lane_width) (vector_count l.rows) 0 l.total l.bytes
