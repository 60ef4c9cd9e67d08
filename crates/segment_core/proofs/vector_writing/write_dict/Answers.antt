use Rattle.std.proofs.Common.{length}
use Rattle.std.proofs.lemmas.Result.{err_from_is_err_and}
use Rattle.segment_core.specs.Format.{signed, all}
use Rattle.segment_core.specs.VectorBytes.{words}
use Rattle.segment_core.proofs.VectorLaws.{dict_spelled}
use Rattle.segment_core.proofs.Writings.{writes_both, writes_front}
use Rattle.segment_core.proofs.vector_writing.write_dict.Goals as goal

pub returns-in_err-write_values : goal.returns-in_err-write_values
returns-in_err-write_values g c =
    let p = err_from_is_err_and c.from_residual.result c.from_residual.ensures.1 in
    let e = rw (c.values.ensures.value) at c.in_err-write_values.ensures in
    rw (dict_spelled c.args.form.now (c.values.ensures.form.words))
    (writes_front c.from_residual.result c.in_err-write_values.field-0.0 (g.W.Write.contents c.args.writer.now.0) (g.W.Write.contents c.write_values.new.writer.0) c.args.writer.now.1 c.write_values.new.writer.1 ((all (length c.args.form.now.values) (λ _. signed c.args.form.now.lane_width)).spell c.args.form.now.values) ((words c.args.form.now.codes.lane_width c.args.form.now.width).spell c.args.form.now.codes) (rw (← p.2) p.1) e)

pub returns : goal.returns
returns g c =
    let h0 = rw (c.values.ensures.value) at c.in_ok-write_values.ensures in
    let l = rw (c.codes.ensures.words, c.width.ensures.value) at c.write_words.ensures in
    rw (dict_spelled c.args.form.now (c.values.ensures.form.words))
    (writes_both c.write_words.result (g.W.Write.contents c.args.writer.now.0) (g.W.Write.contents c.write_values.new.writer.0) (g.W.Write.contents c.write_words.new.writer.0) c.args.writer.now.1 c.write_values.new.writer.1 c.write_words.new.writer.1 ((all (length c.args.form.now.values) (λ _. signed c.args.form.now.lane_width)).spell c.args.form.now.values) ((words c.args.form.now.codes.lane_width c.args.form.now.width).spell c.args.form.now.codes) h0.0 h0.1
    (l))
