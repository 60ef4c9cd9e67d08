use Rattle.std.proofs.lemmas.Result.{err_from_is_err_and}
use Rattle.segment_core.specs.Format.{number}
use Rattle.column_file.proofs.SummaryWriting.{batch_name_spelled}
use Rattle.segment_core.proofs.Writings.{writes_both, writes_front}
use Rattle.column_file.proofs.summary_writing.write_batch_name.Goals as goal

pub returns-in_err-write_number : goal.returns-in_err-write_number
returns-in_err-write_number g c = λ front.
    let p = err_from_is_err_and c.from_residual.result c.from_residual.ensures.1 in
    let e = c.in_err-write_number.ensures in
    rw (batch_name_spelled front c.args.name)
    (writes_front c.from_residual.result c.in_err-write_number.field-0.0 (g.W.Write.contents c.args.writer.now.0) (g.W.Write.contents c.write_number.new.writer.0) c.args.writer.now.1 c.write_number.new.writer.1 ((number 4).spell c.args.name.origin.0) ((number 4).spell c.args.name.number.0) (rw (← p.2) p.1) e)

pub returns : goal.returns
returns g c = λ front.
    let h0 = c.in_ok-write_number.ensures in
    let l = c.write_number-2.ensures in
    rw (batch_name_spelled front c.args.name)
    (writes_both c.write_number-2.result (g.W.Write.contents c.args.writer.now.0) (g.W.Write.contents c.write_number.new.writer.0) (g.W.Write.contents c.write_number-2.new.writer.0) c.args.writer.now.1 c.write_number.new.writer.1 c.write_number-2.new.writer.1 ((number 4).spell c.args.name.origin.0) ((number 4).spell c.args.name.number.0) h0.0 h0.1
    l)
