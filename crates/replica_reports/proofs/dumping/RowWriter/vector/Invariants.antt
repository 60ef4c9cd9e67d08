-- The lines of the rows of the mask before this one are written.
use Rattle.std.proofs.Common.{◌≡◌}
use Rattle.std.specs.Prelude.{Ok}
use Rattle.live_columns.proofs.Picked.{picked_below}
use Rattle.replica_reports.specs.Dumps.{WritesLines}
use Rattle.replica_reports.proofs.DumpLines.{decoded, rows_text}
use Rattle.replica_reports.proofs.dumping.RowWriter.vector.Given as goal

abbrev pub invariant-loop-row : goal.invariant-loop-row
invariant-loop-row g l = record {
  so : WritesLines (Ok tt) (g.W.Write.contents l.initial.writer.0) (g.W.Write.contents l.writer.0) l.initial.writer.1 l.writer.1
      (rows_text l.initial.self.has_names (picked_below l.row l.rows (decoded l.batch l.first l.rooms)));
  names : l.self.has_names ≡ l.initial.self.has_names;
}
