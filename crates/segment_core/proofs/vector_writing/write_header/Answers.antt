use Rattle.std.proofs.Common.{◌++◌}
use Rattle.std.proofs.lemmas.Result.{err_from_is_err_and}
use Rattle.segment_core.specs.Format.{number}
use Rattle.segment_core.specs.VectorBytes.{tag_of}
use Rattle.segment_core.proofs.VectorLaws.{header_spelled}
use Rattle.segment_core.proofs.Writings.{writes_both, writes_front}
use Rattle.segment_core.proofs.vector_writing.write_header.Goals as goal

pub returns-in_err-write_number : goal.returns-in_err-write_number
returns-in_err-write_number g c =
    let p = err_from_is_err_and c.from_residual.result c.from_residual.ensures.1 in
    let e = rw (c.tag.ensures) at c.in_err-write_number.ensures in
    rw (header_spelled c.args.lane_width c.args.head)
    (writes_front c.from_residual.result c.in_err-write_number.field-0.0 (g.W.Write.contents c.args.writer.now.0) (g.W.Write.contents c.write_number.new.writer.0) c.args.writer.now.1 c.write_number.new.writer.1 ((number 1).spell (tag_of c.args.head.coding)) (((number 1).spell c.args.head.width) ++ ((number 2).spell c.args.head.count)) (rw (← p.2) p.1) e)

pub returns-in_err-write_number-2 : goal.returns-in_err-write_number-2
returns-in_err-write_number-2 g c =
    let p = err_from_is_err_and c.from_residual-in_err-write_number-2.result c.from_residual-in_err-write_number-2.ensures.1 in
    let h0 = rw (c.tag.ensures) at c.in_ok-write_number.ensures in
    let e = c.in_err-write_number-2.ensures in
    rw (header_spelled c.args.lane_width c.args.head)
    (writes_both c.from_residual-in_err-write_number-2.result (g.W.Write.contents c.args.writer.now.0) (g.W.Write.contents c.write_number.new.writer.0) (g.W.Write.contents c.write_number-2.new.writer.0) c.args.writer.now.1 c.write_number.new.writer.1 c.write_number-2.new.writer.1 ((number 1).spell (tag_of c.args.head.coding)) (((number 1).spell c.args.head.width) ++ ((number 2).spell c.args.head.count)) h0.0 h0.1
    (writes_front c.from_residual-in_err-write_number-2.result c.in_err-write_number-2.field-0.0 (g.W.Write.contents c.write_number.new.writer.0) (g.W.Write.contents c.write_number-2.new.writer.0) c.write_number.new.writer.1 c.write_number-2.new.writer.1 ((number 1).spell c.args.head.width) ((number 2).spell c.args.head.count) (rw (← p.2) p.1) e))

pub returns : goal.returns
returns g c =
    let h0 = rw (c.tag.ensures) at c.in_ok-write_number.ensures in
    let h1 = c.in_ok-write_number-2.ensures in
    let l = c.write_number-3.ensures in
    rw (header_spelled c.args.lane_width c.args.head)
    (writes_both c.write_number-3.result (g.W.Write.contents c.args.writer.now.0) (g.W.Write.contents c.write_number.new.writer.0) (g.W.Write.contents c.write_number-3.new.writer.0) c.args.writer.now.1 c.write_number.new.writer.1 c.write_number-3.new.writer.1 ((number 1).spell (tag_of c.args.head.coding)) (((number 1).spell c.args.head.width) ++ ((number 2).spell c.args.head.count)) h0.0 h0.1
    (writes_both c.write_number-3.result (g.W.Write.contents c.write_number.new.writer.0) (g.W.Write.contents c.write_number-2.new.writer.0) (g.W.Write.contents c.write_number-3.new.writer.0) c.write_number.new.writer.1 c.write_number-2.new.writer.1 c.write_number-3.new.writer.1 ((number 1).spell c.args.head.width) ((number 2).spell c.args.head.count) h1.0 h1.1
    (l)))
