use Rattle.std.proofs.Common.{take}
use Rattle.std.proofs.lemmas.Result.{err_from_is_err_and}
use Rattle.lanes_main.specs.Script.{parts_in}
use Rattle.lanes_main.proofs.Tellings.{round_told, round_early}
use Rattle.lanes_main.proofs.interpreter.round.Goals as goal

pub returns-in_err-write_whole-clause-early : goal.returns-in_err-write_whole-clause-early
returns-in_err-write_whole-clause-early g c =
    let p = err_from_is_err_and c.from_residual-in_err-write_whole.result c.from_residual-in_err-write_whole.ensures.1 in
    rw p.1 (round_early (g.R.Read.remaining c.args.reader.now.0) (g.R.Read.remaining c.read.new.self.0) (g.W.Write.contents c.args.writer.now.0) (g.W.Write.contents c.write_whole.new.self.0)
    (parts_in c.args.session.now.cluster) (parts_in c.feed.new.self.cluster) c.args.session.now.line c.feed.new.self.line
    (take c.in-Ok.count c.read.new.buffer) c.split_at.result.0.now c.new-out.result.items c.feed.new.out.items c.as_slice.result.now
    c.in-Ok.ensures.bytes.0 c.split_at.ensures.front c.new-out.ensures.items c.in_ok-feed.ensures.ok c.as_slice.ensures.value c.in_err-write_whole.ensures.front)

pub returns-clause-told : goal.returns-clause-told
returns-clause-told g c =
    rw (c.tell.ensures.cluster, c.tell.ensures.line) (round_told (g.R.Read.remaining c.args.reader.now.0) (g.R.Read.remaining c.read.new.self.0) (g.W.Write.contents c.args.writer.now.0) (g.W.Write.contents c.write_whole.new.self.0)
    (parts_in c.args.session.now.cluster) (parts_in c.feed.new.self.cluster) c.args.session.now.line c.feed.new.self.line
    (take c.in-Ok.count c.read.new.buffer) c.split_at.result.0.now c.new-out.result.items c.feed.new.out.items c.as_slice.result.now c.in-Ok.count
    c.in-Ok.ensures.bytes.0 c.split_at.ensures.front c.split_at.ensures.front_len c.new-out.ensures.items c.in_ok-feed.ensures.ok c.as_slice.ensures.value c.in_ok-write_whole.ensures.ok)
