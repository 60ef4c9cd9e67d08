use Rattle.std.proofs.Common.{map, length}
use Rattle.std.proofs.lemmas.Result.{err_from_is_err_and}
use Rattle.std.proofs.lemmas.List.{length-map}
use Rattle.segment_core.specs.Format.{number, all}
use Rattle.column_file.specs.ContainerBytes.{entry_of, batch}
use Rattle.column_file.proofs.ContainerWriting.{batches_spelled}
use Rattle.segment_core.proofs.Writings.{writes_both, writes_front}
use Rattle.column_file.proofs.container_writing.write_batches.Goals as goal

pub returns-in_err-write_number-clause-bytes : goal.returns-in_err-write_number-clause-bytes
returns-in_err-write_number-clause-bytes g c = λ table each.
    let p = err_from_is_err_and c.from_residual.result c.from_residual.ensures.1 in
    let e = rw (← length-map c.args.entries.now entry_of) at c.in_err-write_number.ensures in
    rw (batches_spelled table (map entry_of c.args.entries.now))
    (writes_front c.from_residual.result c.in_err-write_number.field-0.0 (g.W.Write.contents c.args.writer.now.0) (g.W.Write.contents c.write_number.new.writer.0) c.args.writer.now.1 c.write_number.new.writer.1 ((number 4).spell (length (map entry_of c.args.entries.now))) ((all (length (map entry_of c.args.entries.now)) (batch table)).spell (map entry_of c.args.entries.now)) (rw (← p.2) p.1) e)

pub returns-clause-bytes : goal.returns-clause-bytes
returns-clause-bytes g c = λ table each.
    let h0 = rw (← length-map c.args.entries.now entry_of) at c.in_ok-write_number.ensures in
    let l = c.write_batch_list.ensures.bytes table each in
    rw (batches_spelled table (map entry_of c.args.entries.now))
    (writes_both c.write_batch_list.result (g.W.Write.contents c.args.writer.now.0) (g.W.Write.contents c.write_number.new.writer.0) (g.W.Write.contents c.write_batch_list.new.writer.0) c.args.writer.now.1 c.write_number.new.writer.1 c.write_batch_list.new.writer.1 ((number 4).spell (length (map entry_of c.args.entries.now))) ((all (length (map entry_of c.args.entries.now)) (batch table)).spell (map entry_of c.args.entries.now)) h0.0 h0.1
    l)
