use Rattle.std.proofs.Common.{◌++◌, [], ◌-◌, ◌≤◌, length}
use Rattle.std.proofs.lemmas.Result.{err_from_is_err_and}
use Rattle.segment_core.specs.Format.{number}
use Rattle.segment_core.specs.SegmentBytes.{segment_bytes}
use Rattle.column_file.specs.SummaryBytes.{batch_name}
use Rattle.column_file.proofs.ContainerWriting.{batch_spelled, rows_counted, rows_some}
use Rattle.segment_core.proofs.Writings.{writes_both, writes_front}
use Rattle.column_file.proofs.container_writing.write_batch.Goals as goal

pub returns-in_err-write_batch_name-clause-bytes : goal.returns-in_err-write_batch_name-clause-bytes
returns-in_err-write_batch_name-clause-bytes g c = λ table front widths.
    let p = err_from_is_err_and c.from_residual.result c.from_residual.ensures.1 in
    let some : 1 ≤ length c.args.segment.now.rows = rows_some c.args.segment.now c.rows-rows.result c.rows-rows.ensures.count c.rows-rows.ensures.form in
    let e = c.in_err-write_batch_name.ensures [] in
    rw (batch_spelled table front c.args.name c.args.segment.now some widths)
    (writes_front c.from_residual.result c.in_err-write_batch_name.field-0.0 (g.W.Write.contents c.args.writer.now.0) (g.W.Write.contents c.write_batch_name.new.writer.0) c.args.writer.now.1 c.write_batch_name.new.writer.1 ((batch_name []).spell c.args.name) (((number 2).spell (length c.args.segment.now.rows - 1)) ++ (segment_bytes c.args.segment.now)) (rw (← p.2) p.1) e)

pub returns-in_err-write_number-clause-bytes : goal.returns-in_err-write_number-clause-bytes
returns-in_err-write_number-clause-bytes g c = λ table front widths.
    let p = err_from_is_err_and c.from_residual-in_err-write_number.result c.from_residual-in_err-write_number.ensures.1 in
    let some : 1 ≤ length c.args.segment.now.rows = rows_some c.args.segment.now c.rows-rows.result c.rows-rows.ensures.count c.rows-rows.ensures.form in
    let h0 = c.in_ok-write_batch_name.ensures [] in
    let e = rw c.rows-rows.ensures.count at c.in_err-write_number.ensures in
    rw (batch_spelled table front c.args.name c.args.segment.now some widths)
    (writes_both c.from_residual-in_err-write_number.result (g.W.Write.contents c.args.writer.now.0) (g.W.Write.contents c.write_batch_name.new.writer.0) (g.W.Write.contents c.write_number.new.writer.0) c.args.writer.now.1 c.write_batch_name.new.writer.1 c.write_number.new.writer.1 ((batch_name []).spell c.args.name) (((number 2).spell (length c.args.segment.now.rows - 1)) ++ (segment_bytes c.args.segment.now)) h0.0 h0.1
    (writes_front c.from_residual-in_err-write_number.result c.in_err-write_number.field-0.0 (g.W.Write.contents c.write_batch_name.new.writer.0) (g.W.Write.contents c.write_number.new.writer.0) c.write_batch_name.new.writer.1 c.write_number.new.writer.1 ((number 2).spell (length c.args.segment.now.rows - 1)) (segment_bytes c.args.segment.now) (rw (← p.2) p.1) e))

pub returns-clause-bytes : goal.returns-clause-bytes
returns-clause-bytes g c = λ table front widths.
    let some : 1 ≤ length c.args.segment.now.rows = rows_some c.args.segment.now c.rows-rows.result c.rows-rows.ensures.count c.rows-rows.ensures.form in
    let h0 = c.in_ok-write_batch_name.ensures [] in
    let h1 = rw c.rows-rows.ensures.count at c.in_ok-write_number.ensures in
    let l = c.write_bytes.ensures in
    rw (batch_spelled table front c.args.name c.args.segment.now some widths)
    (writes_both c.write_bytes.result (g.W.Write.contents c.args.writer.now.0) (g.W.Write.contents c.write_batch_name.new.writer.0) (g.W.Write.contents c.write_bytes.new.writer.0) c.args.writer.now.1 c.write_batch_name.new.writer.1 c.write_bytes.new.writer.1 ((batch_name []).spell c.args.name) (((number 2).spell (length c.args.segment.now.rows - 1)) ++ (segment_bytes c.args.segment.now)) h0.0 h0.1
    (writes_both c.write_bytes.result (g.W.Write.contents c.write_batch_name.new.writer.0) (g.W.Write.contents c.write_number.new.writer.0) (g.W.Write.contents c.write_bytes.new.writer.0) c.write_batch_name.new.writer.1 c.write_number.new.writer.1 c.write_bytes.new.writer.1 ((number 2).spell (length c.args.segment.now.rows - 1)) (segment_bytes c.args.segment.now) h1.0 h1.1
    l))

pub returns-in_err-write_batch_name-clause-rows : goal.returns-in_err-write_batch_name-clause-rows
returns-in_err-write_batch_name-clause-rows g c = rows_counted c.args.segment.now c.rows-rows.result c.rows-rows.ensures.count c.rows-rows.ensures.rows

pub returns-in_err-write_number-clause-rows : goal.returns-in_err-write_number-clause-rows
returns-in_err-write_number-clause-rows g c = rows_counted c.args.segment.now c.rows-rows.result c.rows-rows.ensures.count c.rows-rows.ensures.rows

pub returns-clause-rows : goal.returns-clause-rows
returns-clause-rows g c = rows_counted c.args.segment.now c.rows-rows.result c.rows-rows.ensures.count c.rows-rows.ensures.rows
