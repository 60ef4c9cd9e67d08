use Rattle.std.proofs.lemmas.Result.{err_from_is_err_and}
use Rattle.segment_core.specs.Coded.{lane_width_of}
use Rattle.segment_core.specs.VectorBytes.{header, header_of, payload}
use Rattle.segment_core.proofs.ValidLemmas.{width_fits, count_fits}
use Rattle.segment_core.proofs.VectorLaws.{coded_spelled}
use Rattle.segment_core.proofs.Writings.{writes_both, writes_front}
use Rattle.segment_core.proofs.vector_writing.write_coded.Goals as goal

pub write_header-requires-clause-width : goal.write_header-requires-clause-width
write_header-requires-clause-width g c = rw c.head_of.ensures (width_fits c.args.form.now c.lane_width.ensures.form)

pub write_header-requires-clause-count : goal.write_header-requires-clause-count
write_header-requires-clause-count g c = rw c.head_of.ensures (count_fits c.args.form.now c.lane_width.ensures.form)

pub returns-in_err-write_header : goal.returns-in_err-write_header
returns-in_err-write_header g c =
    let p = err_from_is_err_and c.from_residual.result c.from_residual.ensures.1 in
    let e = rw (c.head_of.ensures, c.lane_width.ensures.value) at c.in_err-write_header.ensures in
    rw (coded_spelled (lane_width_of c.args.form.now) c.args.form.now)
    (writes_front c.from_residual.result c.in_err-write_header.field-0.0 (g.W.Write.contents c.args.writer.now.0) (g.W.Write.contents c.write_header.new.writer.0) c.args.writer.now.1 c.write_header.new.writer.1 ((header (lane_width_of c.args.form.now)).spell (header_of c.args.form.now)) ((payload (lane_width_of c.args.form.now) (header_of c.args.form.now)).spell c.args.form.now) (rw (← p.2) p.1) e)

pub returns : goal.returns
returns g c =
    let h0 = rw (c.head_of.ensures, c.lane_width.ensures.value) at c.in_ok-write_header.ensures in
    let l = c.write_payload.ensures in
    rw (coded_spelled (lane_width_of c.args.form.now) c.args.form.now)
    (writes_both c.write_payload.result (g.W.Write.contents c.args.writer.now.0) (g.W.Write.contents c.write_header.new.writer.0) (g.W.Write.contents c.write_payload.new.writer.0) c.args.writer.now.1 c.write_header.new.writer.1 c.write_payload.new.writer.1 ((header (lane_width_of c.args.form.now)).spell (header_of c.args.form.now)) ((payload (lane_width_of c.args.form.now) (header_of c.args.form.now)).spell c.args.form.now) h0.0 h0.1
    (l))
