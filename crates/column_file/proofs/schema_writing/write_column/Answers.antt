use Rattle.std.proofs.lemmas.Result.{err_from_is_err_and}
use Rattle.segment_core.specs.Format.{number}
use Rattle.column_file.specs.SchemaBytes.{tag_of, name}
use Rattle.column_file.proofs.SchemaWriting.{column_spelled}
use Rattle.segment_core.proofs.Writings.{writes_both, writes_front}
use Rattle.column_file.proofs.schema_writing.write_column.Goals as goal

pub returns-in_err-write_number : goal.returns-in_err-write_number
returns-in_err-write_number g c = λ version front.
    let p = err_from_is_err_and c.from_residual.result c.from_residual.ensures.1 in
    let e = rw (c.tag.ensures, c.column_type.ensures) at c.in_err-write_number.ensures in
    rw (column_spelled version front c.args.shape.now)
    (writes_front c.from_residual.result c.in_err-write_number.field-0.0 (g.W.Write.contents c.args.writer.now.0) (g.W.Write.contents c.write_number.new.writer.0) c.args.writer.now.1 c.write_number.new.writer.1 ((number 1).spell (tag_of c.args.shape.now.column_type)) (name.spell c.args.shape.now.name) (rw (← p.2) p.1) e)

pub returns : goal.returns
returns g c = λ version front.
    let h0 = rw (c.tag.ensures, c.column_type.ensures) at c.in_ok-write_number.ensures in
    let l = rw c.name.ensures at c.write_name.ensures in
    rw (column_spelled version front c.args.shape.now)
    (writes_both c.write_name.result (g.W.Write.contents c.args.writer.now.0) (g.W.Write.contents c.write_number.new.writer.0) (g.W.Write.contents c.write_name.new.writer.0) c.args.writer.now.1 c.write_number.new.writer.1 c.write_name.new.writer.1 ((number 1).spell (tag_of c.args.shape.now.column_type)) (name.spell c.args.shape.now.name) h0.0 h0.1
    l)
