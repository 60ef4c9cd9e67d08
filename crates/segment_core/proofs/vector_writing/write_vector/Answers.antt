use Rattle.std.proofs.lemmas.Result.{err_from_is_err_and}
use Rattle.segment_core.specs.Coded.{lane_width_of}
use Rattle.segment_core.specs.VectorBytes.{nulls, coded}
use Rattle.segment_core.proofs.VectorLaws.{vector_spelled}
use Rattle.segment_core.proofs.Writings.{writes_both, writes_front}
use Rattle.segment_core.proofs.vector_writing.write_vector.Goals as goal

pub returns-in_err-write_nulls : goal.returns-in_err-write_nulls
returns-in_err-write_nulls g c =
    let p = err_from_is_err_and c.from_residual.result c.from_residual.ensures.1 in
    let e = rw (c.nulls.ensures, c.rows.ensures.value) at c.in_err-write_nulls.ensures in
    rw (vector_spelled c.args.form.now)
    (writes_front c.from_residual.result c.in_err-write_nulls.field-0.0 (g.W.Write.contents c.args.writer.now.0) (g.W.Write.contents c.write_nulls.new.writer.0) c.args.writer.now.1 c.write_nulls.new.writer.1 ((nulls c.args.form.now.rows).spell c.args.form.now.nulls) ((coded (lane_width_of c.args.form.now.coded)).spell c.args.form.now.coded) (rw (← p.2) p.1) e)

pub returns : goal.returns
returns g c =
    let h0 = rw (c.nulls.ensures, c.rows.ensures.value) at c.in_ok-write_nulls.ensures in
    let l = rw (c.coded.ensures) at c.write_coded.ensures in
    rw (vector_spelled c.args.form.now)
    (writes_both c.write_coded.result (g.W.Write.contents c.args.writer.now.0) (g.W.Write.contents c.write_nulls.new.writer.0) (g.W.Write.contents c.write_coded.new.writer.0) c.args.writer.now.1 c.write_nulls.new.writer.1 c.write_coded.new.writer.1 ((nulls c.args.form.now.rows).spell c.args.form.now.nulls) ((coded (lane_width_of c.args.form.now.coded)).spell c.args.form.now.coded) h0.0 h0.1
    (l))
