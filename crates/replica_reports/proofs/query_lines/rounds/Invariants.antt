-- What was read so far is told.
use Rattle.std.proofs.Common.{◌≡◌, ◌≤◌}
use Rattle.table_model.specs.declared.counted.TheConstants.{READ_LIMIT}
use Rattle.replica_reports.specs.QueryLines.{Heard}
use Rattle.replica_reports.specs.RefusedLines.{Hearing}
use Rattle.replica_reports.proofs.query_lines.rounds.Given as goal

abbrev pub invariant-loop-turn : goal.invariant-loop-turn
invariant-loop-turn g l = record {
  heard : Heard l.asked.format l.asked.file.now.replica (g.R.Read.remaining l.initial.reader.0) (g.R.Read.remaining l.reader.0) (g.W.Write.contents l.initial.writer.0) (g.W.Write.contents l.writer.0) l.lines.is_whole l.lines.line l.total;
  some : l._turn ≤ l.total;
  limit : l.total ≤ READ_LIMIT;
  reader : l.reader.1 ≡ l.initial.reader.1;
  writer : l.writer.1 ≡ l.initial.writer.1;
  refused : Hearing l.asked.format l.asked.file.now.replica (g.R.Read.remaining l.initial.reader.0) (g.R.Read.remaining l.reader.0) (g.L.Listener.heard l.initial.listener) (g.L.Listener.heard l.listener) l.lines.number l.lines.line;
}
