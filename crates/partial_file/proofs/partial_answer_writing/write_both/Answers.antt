use Rattle.std.proofs.Common.{codes}
use Rattle.std.proofs.lemmas.Result.{err_from_is_err_and}
use Rattle.column_file.specs.SummaryBytes.{head}
use Rattle.segment_core.proofs.Writings.{writes_both, writes_front}
use Rattle.partial_file.proofs.Written.{on_ok}
use Rattle.partial_file.proofs.partial_answer_writing.write_both.Goals as goal

pub returns-in_err-write_head-clause-written : goal.returns-in_err-write_head-clause-written
returns-in_err-write_head-clause-written g c =
    let p = err_from_is_err_and c.from_residual.result c.from_residual.ensures.1 in
    writes_front c.from_residual.result c.in_err-write_head.field-0.0 (g.W.Write.contents c.args.writer.now.0) (g.W.Write.contents c.write_head.new.writer.0) c.args.writer.now.1 c.write_head.new.writer.1 ((head (codes "FLPT")).spell c.args.schema.now) c.args.rest.now (rw (← p.2) p.1) c.in_err-write_head.ensures.written

pub returns-clause-written : goal.returns-clause-written
returns-clause-written g c =
    let h = c.in_ok-write_head.ensures.written in
    writes_both c.write_whole.result (g.W.Write.contents c.args.writer.now.0) (g.W.Write.contents c.write_head.new.writer.0) (g.W.Write.contents c.write_whole.new.writer.0) c.args.writer.now.1 c.write_head.new.writer.1 c.write_whole.new.writer.1 ((head (codes "FLPT")).spell c.args.schema.now) c.args.rest.now h.0 h.1 c.write_whole.ensures

pub returns-clause-valid : goal.returns-clause-valid
returns-clause-valid g c = on_ok c.write_whole.result c.in_ok-write_head.ensures.valid
