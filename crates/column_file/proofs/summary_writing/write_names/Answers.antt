use Rattle.std.proofs.Common.{length}
use Rattle.std.proofs.lemmas.Result.{err_from_is_err_and}
use Rattle.table_model.specs.Name.{name_cmp}
use Rattle.segment_core.specs.Format.{number, all}
use Rattle.column_file.specs.Ordered.{in_order}
use Rattle.column_file.specs.SummaryBytes.{batch_name}
use Rattle.column_file.proofs.OrderedLists.{length-in_order}
use Rattle.column_file.proofs.SummaryWriting.{names_spelled}
use Rattle.segment_core.proofs.Writings.{writes_both, writes_front}
use Rattle.column_file.proofs.HasFiles.{always}
use Rattle.column_file.proofs.summary_writing.write_names.Goals as goal

pub returns-in_err-write_number-clause-bytes : goal.returns-in_err-write_number-clause-bytes
returns-in_err-write_number-clause-bytes g c =
    let p = err_from_is_err_and c.from_residual.result c.from_residual.ensures.1 in
    let e = rw (c.len.ensures, ← length-in_order c.args.held.now) at c.in_err-write_number.ensures in
    rw (names_spelled (in_order name_cmp c.args.held.now))
    (writes_front c.from_residual.result c.in_err-write_number.field-0.0 (g.W.Write.contents c.args.writer.now.0) (g.W.Write.contents c.write_number.new.writer.0) c.args.writer.now.1 c.write_number.new.writer.1 ((number 4).spell (length (in_order name_cmp c.args.held.now))) ((all (length (in_order name_cmp c.args.held.now)) batch_name).spell (in_order name_cmp c.args.held.now)) (rw (← p.2) p.1) e)

pub returns-clause-bytes : goal.returns-clause-bytes
returns-clause-bytes g c =
    let h0 = rw (c.len.ensures, ← length-in_order c.args.held.now) at c.in_ok-write_number.ensures in
    let l = c.write_name_list.ensures.bytes in
    rw (names_spelled (in_order name_cmp c.args.held.now))
    (writes_both c.write_name_list.result (g.W.Write.contents c.args.writer.now.0) (g.W.Write.contents c.write_number.new.writer.0) (g.W.Write.contents c.write_name_list.new.writer.0) c.args.writer.now.1 c.write_number.new.writer.1 c.write_name_list.new.writer.1 ((number 4).spell (length (in_order name_cmp c.args.held.now))) ((all (length (in_order name_cmp c.args.held.now)) batch_name).spell (in_order name_cmp c.args.held.now)) h0.0 h0.1
    l)

pub returns-clause-numbered : goal.returns-clause-numbered
returns-clause-numbered g c = always c.write_name_list.result c.write_name_list.ensures.numbered
