use Rattle.std.proofs.Common.{◌++◌, []}
use Rattle.std.proofs.lemmas.Result.{err_from_is_err_and}
use Rattle.segment_core.specs.Format.{number}
use Rattle.column_file.specs.SummaryBytes.{batch_name}
use Rattle.column_file.proofs.ContainerWriting.{range_spelled}
use Rattle.segment_core.proofs.Writings.{writes_both, writes_front}
use Rattle.column_file.proofs.container_writing.write_range.Goals as goal

pub returns-in_err-write_batch_name : goal.returns-in_err-write_batch_name
returns-in_err-write_batch_name g c = λ front.
    let p = err_from_is_err_and c.from_residual.result c.from_residual.ensures.1 in
    let e = c.in_err-write_batch_name.ensures [] in
    rw (range_spelled front c.args.deleted)
    (writes_front c.from_residual.result c.in_err-write_batch_name.field-0.0 (g.W.Write.contents c.args.writer.now.0) (g.W.Write.contents c.write_batch_name.new.writer.0) c.args.writer.now.1 c.write_batch_name.new.writer.1 ((batch_name []).spell c.args.deleted.0.batch) (((number 2).spell c.args.deleted.0.ordinal) ++ ((number 2).spell c.args.deleted.1)) (rw (← p.2) p.1) e)

pub returns-in_err-write_number : goal.returns-in_err-write_number
returns-in_err-write_number g c = λ front.
    let p = err_from_is_err_and c.from_residual-in_err-write_number.result c.from_residual-in_err-write_number.ensures.1 in
    let h0 = c.in_ok-write_batch_name.ensures [] in
    let e = c.in_err-write_number.ensures in
    rw (range_spelled front c.args.deleted)
    (writes_both c.from_residual-in_err-write_number.result (g.W.Write.contents c.args.writer.now.0) (g.W.Write.contents c.write_batch_name.new.writer.0) (g.W.Write.contents c.write_number.new.writer.0) c.args.writer.now.1 c.write_batch_name.new.writer.1 c.write_number.new.writer.1 ((batch_name []).spell c.args.deleted.0.batch) (((number 2).spell c.args.deleted.0.ordinal) ++ ((number 2).spell c.args.deleted.1)) h0.0 h0.1
    (writes_front c.from_residual-in_err-write_number.result c.in_err-write_number.field-0.0 (g.W.Write.contents c.write_batch_name.new.writer.0) (g.W.Write.contents c.write_number.new.writer.0) c.write_batch_name.new.writer.1 c.write_number.new.writer.1 ((number 2).spell c.args.deleted.0.ordinal) ((number 2).spell c.args.deleted.1) (rw (← p.2) p.1) e))

pub returns : goal.returns
returns g c = λ front.
    let h0 = c.in_ok-write_batch_name.ensures [] in
    let h1 = c.in_ok-write_number.ensures in
    let l = c.write_number-2.ensures in
    rw (range_spelled front c.args.deleted)
    (writes_both c.write_number-2.result (g.W.Write.contents c.args.writer.now.0) (g.W.Write.contents c.write_batch_name.new.writer.0) (g.W.Write.contents c.write_number-2.new.writer.0) c.args.writer.now.1 c.write_batch_name.new.writer.1 c.write_number-2.new.writer.1 ((batch_name []).spell c.args.deleted.0.batch) (((number 2).spell c.args.deleted.0.ordinal) ++ ((number 2).spell c.args.deleted.1)) h0.0 h0.1
    (writes_both c.write_number-2.result (g.W.Write.contents c.write_batch_name.new.writer.0) (g.W.Write.contents c.write_number.new.writer.0) (g.W.Write.contents c.write_number-2.new.writer.0) c.write_batch_name.new.writer.1 c.write_number.new.writer.1 c.write_number-2.new.writer.1 ((number 2).spell c.args.deleted.0.ordinal) ((number 2).spell c.args.deleted.1) h1.0 h1.1
    l))
