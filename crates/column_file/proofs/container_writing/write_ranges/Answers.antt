use Rattle.std.proofs.Common.{map, length}
use Rattle.std.proofs.lemmas.Result.{err_from_is_err_and}
use Rattle.std.proofs.lemmas.List.{length-map}
use Rattle.segment_core.specs.Format.{number, all}
use Rattle.column_file.specs.ContainerBytes.{deleted_of, range}
use Rattle.column_file.proofs.ContainerWriting.{ranges_spelled}
use Rattle.segment_core.proofs.Writings.{writes_both, writes_front}
use Rattle.column_file.proofs.container_writing.write_ranges.Goals as goal

pub returns-in_err-write_number : goal.returns-in_err-write_number
returns-in_err-write_number g c =
    let p = err_from_is_err_and c.from_residual.result c.from_residual.ensures.1 in
    let e = rw (← length-map c.args.deleted.now deleted_of) at c.in_err-write_number.ensures in
    rw (ranges_spelled (map deleted_of c.args.deleted.now))
    (writes_front c.from_residual.result c.in_err-write_number.field-0.0 (g.W.Write.contents c.args.writer.now.0) (g.W.Write.contents c.write_number.new.writer.0) c.args.writer.now.1 c.write_number.new.writer.1 ((number 8).spell (length (map deleted_of c.args.deleted.now))) ((all (length (map deleted_of c.args.deleted.now)) range).spell (map deleted_of c.args.deleted.now)) (rw (← p.2) p.1) e)

pub returns : goal.returns
returns g c =
    let h0 = rw (← length-map c.args.deleted.now deleted_of) at c.in_ok-write_number.ensures in
    let l = c.write_range_list.ensures in
    rw (ranges_spelled (map deleted_of c.args.deleted.now))
    (writes_both c.write_range_list.result (g.W.Write.contents c.args.writer.now.0) (g.W.Write.contents c.write_number.new.writer.0) (g.W.Write.contents c.write_range_list.new.writer.0) c.args.writer.now.1 c.write_number.new.writer.1 c.write_range_list.new.writer.1 ((number 8).spell (length (map deleted_of c.args.deleted.now))) ((all (length (map deleted_of c.args.deleted.now)) range).spell (map deleted_of c.args.deleted.now)) h0.0 h0.1
    l)
