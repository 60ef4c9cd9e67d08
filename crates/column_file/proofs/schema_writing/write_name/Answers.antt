use Rattle.std.proofs.Common.{length}
use Rattle.std.proofs.lemmas.Result.{err_from_is_err_and}
use Rattle.segment_core.specs.Format.{number}
use Rattle.column_file.proofs.SchemaWriting.{name_spelled}
use Rattle.segment_core.proofs.Writings.{writes_both, writes_front}
use Rattle.column_file.proofs.schema_writing.write_name.Goals as goal

pub returns-in_err-write_number : goal.returns-in_err-write_number
returns-in_err-write_number g c =
    let p = err_from_is_err_and c.from_residual.result c.from_residual.ensures.1 in
    let e = c.in_err-write_number.ensures in
    rw (name_spelled c.args.text.now)
    (writes_front c.from_residual.result c.in_err-write_number.field-0.0 (g.W.Write.contents c.args.writer.now.0) (g.W.Write.contents c.write_number.new.writer.0) c.args.writer.now.1 c.write_number.new.writer.1 ((number 1).spell (length c.args.text.now)) c.args.text.now (rw (← p.2) p.1) e)

pub returns : goal.returns
returns g c =
    let h0 = c.in_ok-write_number.ensures in
    let l = rw c.as_bytes.ensures.value at c.write_whole.ensures in
    rw (name_spelled c.args.text.now)
    (writes_both c.write_whole.result (g.W.Write.contents c.args.writer.now.0) (g.W.Write.contents c.write_number.new.writer.0) (g.W.Write.contents c.write_whole.new.writer.0) c.args.writer.now.1 c.write_number.new.writer.1 c.write_whole.new.writer.1 ((number 1).spell (length c.args.text.now)) c.args.text.now h0.0 h0.1
    l)
