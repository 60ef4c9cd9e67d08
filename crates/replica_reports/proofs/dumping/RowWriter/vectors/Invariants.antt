-- The lines of the first vectors are written.
use Rattle.std.proofs.Common.{◌≡◌}
use Rattle.std.specs.Prelude.{Ok}
use Rattle.replica_reports.specs.Dumps.{WritesLines}
use Rattle.replica_reports.proofs.DumpLines.{front_of, rows_text}
use Rattle.replica_reports.proofs.dumping.RowWriter.vectors.Given as goal

abbrev pub invariant-loop-kept : goal.invariant-loop-kept
invariant-loop-kept g l =
    let s = (g.C.Columns.seen l.initial.columns).state in
    record {
      so : WritesLines (Ok tt) (g.W.Write.contents l.initial.writer.0) (g.W.Write.contents l.writer.0) l.initial.writer.1 l.writer.1
          (rows_text l.initial.self.has_names (front_of s l.places l.vectors l.kept-index));
      names : l.self.has_names ≡ l.initial.self.has_names;
      table : (g.C.Columns.seen l.columns).table ≡ (g.C.Columns.seen l.initial.columns).table;
      state : (g.C.Columns.seen l.columns).state ≡ s;
    }
