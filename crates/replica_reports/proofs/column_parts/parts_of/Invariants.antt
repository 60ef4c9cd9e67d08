-- The vectors of the batches before this one are counted.
use Rattle.std.proofs.Common.{◌≡◌, ◌*◌, take}
use Rattle.std.specs.FinMap as map
use Rattle.replica_reports.specs.ColumnFigures.{IsAtMost, column_vectors, parts_in}
use Rattle.replica_reports.proofs.column_parts.parts_of.Given as goal

abbrev pub invariant-loop-index : goal.invariant-loop-index
invariant-loop-index l = record {
  counted : l.parts ≡ parts_in (column_vectors l.column (take l.index (map.entries l.store.segments)));
  few : IsAtMost (64 * l.index) l.parts;
}
