-- The lines before what is left of the chunk are told.
use Rattle.std.proofs.Common.{◌≡◌, length}
use Rattle.replica_reports.proofs.LinesTold.{FedSoFar}
use Rattle.replica_reports.proofs.RefusedTold.{ChunkSoFar}
use Rattle.replica_reports.proofs.query_lines.QueryLines.feed.Given as goal

abbrev pub invariant-loop-piece : goal.invariant-loop-piece
invariant-loop-piece g l = record {
  so : FedSoFar l.asked.format l.asked.file.now.replica (g.W.Write.contents l.initial.writer.0) (g.W.Write.contents l.writer.0) l.initial.self.is_whole l.self.is_whole l.initial.self.line l.chunk l.self.line l.left;
  kept : l.writer.1 ≡ l.initial.writer.1;
  hears : ChunkSoFar l.asked.format l.asked.file.now.replica (g.L.Listener.heard l.initial.listener) (g.L.Listener.heard l.listener) l.initial.self.number l.self.number l.initial.self.line l.chunk l.self.line l.left;
}

abbrev pub decreases-loop-piece : goal.decreases-loop-piece
decreases-loop-piece g l = length l.left
