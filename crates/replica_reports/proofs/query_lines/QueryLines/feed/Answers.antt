-- One line after another is told, and the rest is kept.
use Rattle.std.proofs.Common.{◌∙◌, refl}
use Rattle.std.proofs.lemmas.Result.{err_from_is_err_and}
use Rattle.replica_reports.proofs.LinesTold.{fed_start, fed_line, fed_whole, fed_stops, fed_lacks}
use Rattle.replica_reports.proofs.RefusedTold.{chunk_start, chunk_line, chunk_whole, chunk_stops}
use Rattle.replica_reports.proofs.query_lines.QueryLines.feed.Goals as goal

pub loop-piece-init : goal.loop-piece-init
loop-piece-init g c = record {
  so = fed_start c.args.asked.now.format c.args.asked.now.file.now.replica (g.W.Write.contents c.args.writer.now.0) c.args.self.now.is_whole c.args.self.now.line c.args.chunk.now;
  kept = refl;
  hears = chunk_start c.args.asked.now.format c.args.asked.now.file.now.replica (g.L.Listener.heard c.args.listener.now) c.args.self.now.number c.args.self.now.line c.args.chunk.now;
}

pub returns-in_err-end_line-clause-front : goal.returns-in_err-end_line-clause-front
returns-in_err-end_line-clause-front g c =
    let p = err_from_is_err_and c.from_residual.result c.from_residual.ensures.1 in
    rw p.1 (fed_stops c.args.asked.now.format c.args.asked.now.file.now.replica (g.W.Write.contents c.args.writer.now.0) (g.W.Write.contents c.loop-piece.writer.0) (g.W.Write.contents c.end_line.new.writer.0) c.args.self.now.is_whole c.loop-piece.self.is_whole c.args.self.now.line c.args.chunk.now c.loop-piece.self.line c.loop-piece.left.now c.in-Some.piece.now c.in-Some.after.now
    c.loop-piece.invariant.so c.in-Some.ensures.parts c.in_err-end_line.ensures.front)

pub loop-piece-preserved : goal.loop-piece-preserved
loop-piece-preserved g c = record {
  so = fed_line c.args.asked.now.format c.args.asked.now.file.now.replica (g.W.Write.contents c.args.writer.now.0) (g.W.Write.contents c.loop-piece.writer.0) (g.W.Write.contents c.end_line.new.writer.0) c.args.self.now.is_whole c.loop-piece.self.is_whole c.end_line.new.self.is_whole c.args.self.now.line c.args.chunk.now c.loop-piece.self.line c.end_line.new.self.line c.loop-piece.left.now c.in-Some.piece.now c.in-Some.after.now
      c.loop-piece.invariant.so c.in-Some.ensures.parts c.in_ok-end_line.ensures.told c.in_ok-end_line.ensures.whole c.in_ok-end_line.ensures.line;
  kept = c.in_ok-end_line.ensures.kept ∙ c.loop-piece.invariant.kept;
  hears = chunk_line c.args.asked.now.format c.args.asked.now.file.now.replica (g.L.Listener.heard c.args.listener.now) (g.L.Listener.heard c.loop-piece.listener) (g.L.Listener.heard c.end_line.new.listener) c.args.self.now.number c.loop-piece.self.number c.end_line.new.self.number c.args.self.now.line c.args.chunk.now c.loop-piece.self.line c.end_line.new.self.line c.loop-piece.left.now c.in-Some.piece.now c.in-Some.after.now
      c.loop-piece.invariant.hears c.in-Some.ensures.parts c.in_ok-end_line.ensures.refused c.in_ok-end_line.ensures.number c.in_ok-end_line.ensures.line;
}

pub returns-clause-fed : goal.returns-clause-fed
returns-clause-fed g c =
    fed_whole c.args.asked.now.format c.args.asked.now.file.now.replica (g.W.Write.contents c.args.writer.now.0) (g.W.Write.contents c.loop-piece.writer.0) c.args.self.now.is_whole c.loop-piece.self.is_whole c.args.self.now.line c.args.chunk.now c.loop-piece.self.line c.grow.new.self c.loop-piece.left.now
    c.loop-piece.invariant.so c.in_default.ensures.parts c.in_ok-grow.ensures

pub returns-in_err-grow-clause-front : goal.returns-in_err-grow-clause-front
returns-in_err-grow-clause-front g c =
    let p = err_from_is_err_and c.from_residual-in_err-grow.result c.from_residual-in_err-grow.ensures.1 in
    rw p.1 (fed_lacks c.args.asked.now.format c.args.asked.now.file.now.replica (g.W.Write.contents c.args.writer.now.0) (g.W.Write.contents c.loop-piece.writer.0) c.args.self.now.is_whole c.loop-piece.self.is_whole c.args.self.now.line c.args.chunk.now c.loop-piece.self.line c.loop-piece.left.now
    c.loop-piece.invariant.so)

pub returns-clause-refused : goal.returns-clause-refused
returns-clause-refused g c =
    chunk_whole c.args.asked.now.format c.args.asked.now.file.now.replica (g.L.Listener.heard c.args.listener.now) (g.L.Listener.heard c.loop-piece.listener) c.args.self.now.number c.loop-piece.self.number c.args.self.now.line c.args.chunk.now c.loop-piece.self.line c.grow.new.self c.loop-piece.left.now
    c.loop-piece.invariant.hears c.in_default.ensures.parts c.in_ok-grow.ensures

pub returns-in_err-end_line-clause-fewer : goal.returns-in_err-end_line-clause-fewer
returns-in_err-end_line-clause-fewer g c =
    let p = err_from_is_err_and c.from_residual.result c.from_residual.ensures.1 in
    rw p.1 (chunk_stops c.args.asked.now.format c.args.asked.now.file.now.replica (g.L.Listener.heard c.args.listener.now) (g.L.Listener.heard c.loop-piece.listener) (g.L.Listener.heard c.end_line.new.listener) c.args.self.now.number c.loop-piece.self.number c.args.self.now.line c.args.chunk.now c.loop-piece.self.line c.loop-piece.left.now
    c.loop-piece.invariant.hears c.in_err-end_line.ensures.quiet)

pub returns-in_err-grow-clause-fewer : goal.returns-in_err-grow-clause-fewer
returns-in_err-grow-clause-fewer g c =
    let p = err_from_is_err_and c.from_residual-in_err-grow.result c.from_residual-in_err-grow.ensures.1 in
    rw p.1 (chunk_stops c.args.asked.now.format c.args.asked.now.file.now.replica (g.L.Listener.heard c.args.listener.now) (g.L.Listener.heard c.loop-piece.listener) (g.L.Listener.heard c.loop-piece.listener) c.args.self.now.number c.loop-piece.self.number c.args.self.now.line c.args.chunk.now c.loop-piece.self.line c.loop-piece.left.now
    c.loop-piece.invariant.hears refl)
