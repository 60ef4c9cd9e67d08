-- The vectors before this one are counted.
use Rattle.std.proofs.Common.{◌≡◌, ◌≤◌, take, []}
use Rattle.std.specs.Prelude.{slice_index_or}
use Rattle.replica_reports.specs.ColumnFigures.{IsAtMost, parts_in}
use Rattle.replica_reports.proofs.column_parts.parts_in.Given as goal

abbrev pub invariant-loop-vector : goal.invariant-loop-vector
invariant-loop-vector l = record {
  counted : l.parts ≡ parts_in (take l.vector (slice_index_or l.segment.forms l.column []));
  few : IsAtMost l.vector l.parts;
  within : l.vector ≤ 64;
}
