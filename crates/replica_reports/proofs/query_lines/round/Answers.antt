-- A chunk is read, and its lines are told.
use Rattle.std.proofs.Common.{take}
use Rattle.std.proofs.lemmas.Result.{err_from_is_err_and}
use Rattle.replica_reports.proofs.LinesTold.{heard_more, heard_cut}
use Rattle.replica_reports.proofs.RefusedTold.{hearing_more, hearing_cut, hearing_unread, front_since, chunk_since}
use Rattle.replica_reports.proofs.query_lines.round.Goals as goal

pub returns-in_err-feed-clause-early : goal.returns-in_err-feed-clause-early
returns-in_err-feed-clause-early g c =
    let p = err_from_is_err_and c.from_residual.result c.from_residual.ensures.1 in
    rw p.1 (heard_cut c.args.asked.now.format c.args.asked.now.file.now.replica (g.R.Read.remaining c.args.reader.now.0) (g.R.Read.remaining c.read.new.self.0) (g.W.Write.contents c.args.writer.now.0) (g.W.Write.contents c.feed.new.writer.0)
    c.args.lines.now.is_whole c.args.lines.now.line (take c.in-Ok.count c.read.new.buffer) c.split_at.result.0.now c.in-Ok.ensures.bytes.0 c.split_at.ensures.front c.in_err-feed.ensures.front)

pub returns-clause-heard : goal.returns-clause-heard
returns-clause-heard g c =
    heard_more c.args.asked.now.format c.args.asked.now.file.now.replica (g.R.Read.remaining c.args.reader.now.0) (g.R.Read.remaining c.read.new.self.0) (g.W.Write.contents c.args.writer.now.0) (g.W.Write.contents c.feed.new.writer.0)
    c.args.lines.now.is_whole c.feed.new.self.is_whole c.args.lines.now.line c.feed.new.self.line (take c.in-Ok.count c.read.new.buffer) c.split_at.result.0.now c.in-Ok.count
    c.in-Ok.ensures.bytes.0 c.split_at.ensures.front c.split_at.ensures.front_len c.in_ok-feed.ensures.fed

pub returns-in_err-feed-clause-fewer : goal.returns-in_err-feed-clause-fewer
returns-in_err-feed-clause-fewer g c =
    let p = err_from_is_err_and c.from_residual.result c.from_residual.ensures.1 in
    rw p.1 (hearing_cut c.args.asked.now.format c.args.asked.now.file.now.replica (g.R.Read.remaining c.args.reader.now.0) (g.R.Read.remaining c.read.new.self.0) (g.L.Listener.heard c.args.listener.now) (g.L.Listener.heard c.feed.new.listener)
    c.args.lines.now.number c.args.lines.now.line (take c.in-Ok.count c.read.new.buffer) c.split_at.result.0.now c.in-Ok.ensures.bytes.0 c.split_at.ensures.front
    (front_since c.args.asked.now.format c.args.asked.now.file.now.replica (g.L.Listener.heard c.args.listener.now) (g.L.Listener.heard c.wait.new.self) (g.L.Listener.heard c.feed.new.listener) c.args.lines.now.number c.args.lines.now.line c.split_at.result.0.now c.wait.ensures c.in_err-feed.ensures.fewer))

pub returns-clause-refused : goal.returns-clause-refused
returns-clause-refused g c =
    hearing_more c.args.asked.now.format c.args.asked.now.file.now.replica (g.R.Read.remaining c.args.reader.now.0) (g.R.Read.remaining c.read.new.self.0) (g.L.Listener.heard c.args.listener.now) (g.L.Listener.heard c.feed.new.listener)
    c.args.lines.now.number c.feed.new.self.number c.args.lines.now.line c.feed.new.self.line (take c.in-Ok.count c.read.new.buffer) c.split_at.result.0.now
    c.in-Ok.ensures.bytes.0 c.split_at.ensures.front
    (chunk_since c.args.asked.now.format c.args.asked.now.file.now.replica (g.L.Listener.heard c.args.listener.now) (g.L.Listener.heard c.wait.new.self) (g.L.Listener.heard c.feed.new.listener) c.args.lines.now.number c.feed.new.self.number c.args.lines.now.line c.split_at.result.0.now c.feed.new.self.line c.wait.ensures c.in_ok-feed.ensures.refused)
