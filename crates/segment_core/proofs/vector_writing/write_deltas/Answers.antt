use Rattle.std.proofs.Common.{◌++◌, FitsSigned, length, rules}
use Rattle.std.proofs.lemmas.Result.{err_from_is_err_and}
use Rattle.segment_core.specs.Format.{signed, all}
use Rattle.segment_core.specs.VectorBytes.{words}
use Rattle.std.specs.Int.{w64}
use Rattle.std.proofs.lemmas.Int.{to_z-of_z}
use Rattle.segment_core.proofs.VectorLaws.{deltas_spelled}
use Rattle.segment_core.proofs.Writings.{writes_both, writes_front}
use Rattle.segment_core.proofs.vector_writing.write_deltas.Goals as goal

pub returns-in_err-write_value : goal.returns-in_err-write_value
returns-in_err-write_value g c =
    let p = err_from_is_err_and c.from_residual.result c.from_residual.ensures.1 in
    let made : FitsSigned w64 c.least.result = search rules in
    let e = rw (to_z-of_z w64 c.least.result made, c.least.ensures.value, c.lane_width-lane_width.ensures.value) at c.in_err-write_value.ensures in
    rw (deltas_spelled c.args.form.now (c.lane_width-lane_width.ensures.form.words))
    (writes_front c.from_residual.result c.in_err-write_value.field-0.0 (g.W.Write.contents c.args.writer.now.0) (g.W.Write.contents c.write_value.new.writer.0) c.args.writer.now.1 c.write_value.new.writer.1 ((signed c.args.form.now.lane_width).spell c.args.form.now.least) (((all (length c.args.form.now.bases) (λ _. signed c.args.form.now.lane_width)).spell c.args.form.now.bases) ++ ((words c.args.form.now.words.lane_width c.args.form.now.width).spell c.args.form.now.words)) (rw (← p.2) p.1) e)

pub returns-in_err-write_values : goal.returns-in_err-write_values
returns-in_err-write_values g c =
    let p = err_from_is_err_and c.from_residual-in_err-write_values.result c.from_residual-in_err-write_values.ensures.1 in
    let made : FitsSigned w64 c.least.result = search rules in
    let h0 = rw (to_z-of_z w64 c.least.result made, c.least.ensures.value, c.lane_width-lane_width.ensures.value) at c.in_ok-write_value.ensures in
    let e = rw (c.bases.ensures.value) at c.in_err-write_values.ensures in
    rw (deltas_spelled c.args.form.now (c.lane_width-lane_width.ensures.form.words))
    (writes_both c.from_residual-in_err-write_values.result (g.W.Write.contents c.args.writer.now.0) (g.W.Write.contents c.write_value.new.writer.0) (g.W.Write.contents c.write_values.new.writer.0) c.args.writer.now.1 c.write_value.new.writer.1 c.write_values.new.writer.1 ((signed c.args.form.now.lane_width).spell c.args.form.now.least) (((all (length c.args.form.now.bases) (λ _. signed c.args.form.now.lane_width)).spell c.args.form.now.bases) ++ ((words c.args.form.now.words.lane_width c.args.form.now.width).spell c.args.form.now.words)) h0.0 h0.1
    (writes_front c.from_residual-in_err-write_values.result c.in_err-write_values.field-0.0 (g.W.Write.contents c.write_value.new.writer.0) (g.W.Write.contents c.write_values.new.writer.0) c.write_value.new.writer.1 c.write_values.new.writer.1 ((all (length c.args.form.now.bases) (λ _. signed c.args.form.now.lane_width)).spell c.args.form.now.bases) ((words c.args.form.now.words.lane_width c.args.form.now.width).spell c.args.form.now.words) (rw (← p.2) p.1) e))

pub returns : goal.returns
returns g c =
    let made : FitsSigned w64 c.least.result = search rules in
    let h0 = rw (to_z-of_z w64 c.least.result made, c.least.ensures.value, c.lane_width-lane_width.ensures.value) at c.in_ok-write_value.ensures in
    let h1 = rw (c.bases.ensures.value) at c.in_ok-write_values.ensures in
    let l = rw (c.words.ensures.value, c.width.ensures.value) at c.write_words.ensures in
    rw (deltas_spelled c.args.form.now (c.lane_width-lane_width.ensures.form.words))
    (writes_both c.write_words.result (g.W.Write.contents c.args.writer.now.0) (g.W.Write.contents c.write_value.new.writer.0) (g.W.Write.contents c.write_words.new.writer.0) c.args.writer.now.1 c.write_value.new.writer.1 c.write_words.new.writer.1 ((signed c.args.form.now.lane_width).spell c.args.form.now.least) (((all (length c.args.form.now.bases) (λ _. signed c.args.form.now.lane_width)).spell c.args.form.now.bases) ++ ((words c.args.form.now.words.lane_width c.args.form.now.width).spell c.args.form.now.words)) h0.0 h0.1
    (writes_both c.write_words.result (g.W.Write.contents c.write_value.new.writer.0) (g.W.Write.contents c.write_values.new.writer.0) (g.W.Write.contents c.write_words.new.writer.0) c.write_value.new.writer.1 c.write_values.new.writer.1 c.write_words.new.writer.1 ((all (length c.args.form.now.bases) (λ _. signed c.args.form.now.lane_width)).spell c.args.form.now.bases) ((words c.args.form.now.words.lane_width c.args.form.now.width).spell c.args.form.now.words) h1.0 h1.1
    (l)))
