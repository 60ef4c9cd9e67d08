use Rattle.std.proofs.lemmas.Result.{err_from_is_err_and}
use Rattle.segment_core.specs.Format.{number}
use Rattle.segment_core.specs.VectorBytes.{mask}
use Rattle.segment_core.proofs.VectorLaws.{no_nulls_spelled, nulls_spelled}
use Rattle.segment_core.proofs.Writings.{writes_both, writes_front}
use Rattle.segment_core.proofs.vector_writing.write_nulls.Goals as goal

pub returns-in-None : goal.returns-in-None
returns-in-None g c = rw (c.in-None.is, no_nulls_spelled c.args.rows) c.write_number.ensures

pub returns-in_err-write_number-in-Some : goal.returns-in_err-write_number-in-Some
returns-in_err-write_number-in-Some g c =
    let p = err_from_is_err_and c.from_residual.result c.from_residual.ensures.1 in
    rw (c.in-Some.is, nulls_spelled c.args.rows c.in-Some.found.now)
    (writes_front c.from_residual.result c.in_err-write_number-in-Some.field-0.0 (g.W.Write.contents c.args.writer.now.0) (g.W.Write.contents c.write_number-in-Some.new.writer.0) c.args.writer.now.1 c.write_number-in-Some.new.writer.1
    ((number 1).spell 1) (mask.spell c.in-Some.found.now) (rw (← p.2) p.1) c.in_err-write_number-in-Some.ensures)

pub returns-in_ok-write_number-in-Some : goal.returns-in_ok-write_number-in-Some
returns-in_ok-write_number-in-Some g c =
    let h = c.in_ok-write_number-in-Some.ensures in
    rw (c.in-Some.is, nulls_spelled c.args.rows c.in-Some.found.now)
    (writes_both c.write_mask.result (g.W.Write.contents c.args.writer.now.0) (g.W.Write.contents c.write_number-in-Some.new.writer.0) (g.W.Write.contents c.write_mask.new.writer.0) c.args.writer.now.1 c.write_number-in-Some.new.writer.1 c.write_mask.new.writer.1
    ((number 1).spell 1) (mask.spell c.in-Some.found.now) h.0 h.1 c.write_mask.ensures)
