use Rattle.std.proofs.Common.{length}
use Rattle.std.proofs.lemmas.Result.{err_from_is_err_and}
use Rattle.segment_core.specs.Format.{signed, all}
use Rattle.segment_core.specs.VectorBytes.{mask}
use Rattle.segment_core.proofs.VectorLaws.{runs_spelled}
use Rattle.segment_core.proofs.Writings.{writes_both, writes_front}
use Rattle.segment_core.proofs.vector_writing.write_runs.Goals as goal

pub returns-in_err-write_mask : goal.returns-in_err-write_mask
returns-in_err-write_mask g c =
    let p = err_from_is_err_and c.from_residual.result c.from_residual.ensures.1 in
    let e = rw (c.starts.ensures.value) at c.in_err-write_mask.ensures in
    rw (runs_spelled c.args.form.now)
    (writes_front c.from_residual.result c.in_err-write_mask.field-0.0 (g.W.Write.contents c.args.writer.now.0) (g.W.Write.contents c.write_mask.new.writer.0) c.args.writer.now.1 c.write_mask.new.writer.1 (mask.spell c.args.form.now.starts) ((all (length c.args.form.now.values) (λ _. signed c.args.form.now.lane_width)).spell c.args.form.now.values) (rw (← p.2) p.1) e)

pub returns : goal.returns
returns g c =
    let h0 = rw (c.starts.ensures.value) at c.in_ok-write_mask.ensures in
    let l = rw (c.values.ensures.value) at c.write_values.ensures in
    rw (runs_spelled c.args.form.now)
    (writes_both c.write_values.result (g.W.Write.contents c.args.writer.now.0) (g.W.Write.contents c.write_mask.new.writer.0) (g.W.Write.contents c.write_values.new.writer.0) c.args.writer.now.1 c.write_mask.new.writer.1 c.write_values.new.writer.1 (mask.spell c.args.form.now.starts) ((all (length c.args.form.now.values) (λ _. signed c.args.form.now.lane_width)).spell c.args.form.now.values) h0.0 h0.1
    (l))
