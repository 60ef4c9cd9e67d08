use Rattle.segment_core.proofs.Writings.{writes_from}
use Rattle.segment_core.proofs.writing.write_whole.Goals as goal

pub returns : goal.returns
returns g c =
    writes_from c.write_whole.result (g.W.Write.contents c.args.writer.now.0) (g.W.Write.contents c.write_whole.new.self.0) c.args.writer.now.1 c.write_whole.new.self.1 c.args.bytes.now
    c.write_whole.ensures.ok c.write_whole.ensures.front c.write_whole.ensures.kept c.write_whole.ensures.fault
