use Rattle.std.proofs.Common.{◌++◌, length}
use Rattle.std.proofs.lemmas.Result.{err_from_is_err_and}
use Rattle.segment_core.specs.Format.{number, all}
use Rattle.column_file.specs.SchemaBytes.{name, column, version_of}
use Rattle.column_file.proofs.SchemaWriting.{schema_spelled, table_short}
use Rattle.segment_core.proofs.Writings.{writes_both, writes_front}
use Rattle.column_file.proofs.schema_writing.write_schema.Goals as goal

pub returns-in_err-write_number : goal.returns-in_err-write_number
returns-in_err-write_number g c =
    let p = err_from_is_err_and c.from_residual.result c.from_residual.ensures.1 in
    let e = rw (c.column_list-columns.ensures.list) at c.in_err-write_number.ensures in
    rw (schema_spelled (version_of c.args.table.now) c.args.table.now)
    (writes_front c.from_residual.result c.in_err-write_number.field-0.0 (g.W.Write.contents c.args.writer.now.0) (g.W.Write.contents c.write_number.new.writer.0) c.args.writer.now.1 c.write_number.new.writer.1 ((number 2).spell (length c.args.table.now.columns)) ((name.spell c.args.table.now.name) ++ ((all (length c.args.table.now.columns) (column (version_of c.args.table.now))).spell c.args.table.now.columns)) (rw (← p.2) p.1) e)

pub returns-in_err-write_name : goal.returns-in_err-write_name
returns-in_err-write_name g c =
    let p = err_from_is_err_and c.from_residual-in_err-write_name.result c.from_residual-in_err-write_name.ensures.1 in
    let h0 = rw (c.column_list-columns.ensures.list) at c.in_ok-write_number.ensures in
    let e = rw c.table.ensures at c.in_err-write_name.ensures in
    rw (schema_spelled (version_of c.args.table.now) c.args.table.now)
    (writes_both c.from_residual-in_err-write_name.result (g.W.Write.contents c.args.writer.now.0) (g.W.Write.contents c.write_number.new.writer.0) (g.W.Write.contents c.write_name.new.writer.0) c.args.writer.now.1 c.write_number.new.writer.1 c.write_name.new.writer.1 ((number 2).spell (length c.args.table.now.columns)) ((name.spell c.args.table.now.name) ++ ((all (length c.args.table.now.columns) (column (version_of c.args.table.now))).spell c.args.table.now.columns)) h0.0 h0.1
    (writes_front c.from_residual-in_err-write_name.result c.in_err-write_name.field-0.0 (g.W.Write.contents c.write_number.new.writer.0) (g.W.Write.contents c.write_name.new.writer.0) c.write_number.new.writer.1 c.write_name.new.writer.1 (name.spell c.args.table.now.name) ((all (length c.args.table.now.columns) (column (version_of c.args.table.now))).spell c.args.table.now.columns) (rw (← p.2) p.1) e))

pub returns : goal.returns
returns g c =
    let h0 = rw (c.column_list-columns.ensures.list) at c.in_ok-write_number.ensures in
    let h1 = rw c.table.ensures at c.in_ok-write_name.ensures in
    let l = rw c.column_list-columns.ensures.list at (c.write_columns.ensures (version_of c.args.table.now)) in
    rw (schema_spelled (version_of c.args.table.now) c.args.table.now)
    (writes_both c.write_columns.result (g.W.Write.contents c.args.writer.now.0) (g.W.Write.contents c.write_number.new.writer.0) (g.W.Write.contents c.write_columns.new.writer.0) c.args.writer.now.1 c.write_number.new.writer.1 c.write_columns.new.writer.1 ((number 2).spell (length c.args.table.now.columns)) ((name.spell c.args.table.now.name) ++ ((all (length c.args.table.now.columns) (column (version_of c.args.table.now))).spell c.args.table.now.columns)) h0.0 h0.1
    (writes_both c.write_columns.result (g.W.Write.contents c.write_number.new.writer.0) (g.W.Write.contents c.write_name.new.writer.0) (g.W.Write.contents c.write_columns.new.writer.0) c.write_number.new.writer.1 c.write_name.new.writer.1 c.write_columns.new.writer.1 (name.spell c.args.table.now.name) ((all (length c.args.table.now.columns) (column (version_of c.args.table.now))).spell c.args.table.now.columns) h1.0 h1.1
    l))

pub write_name-requires : goal.write_name-requires
write_name-requires g c = rw c.table.ensures (table_short c.args.table.now c.column_list-columns.ensures.proper).0

pub write_columns-requires : goal.write_columns-requires
write_columns-requires g c = rw c.column_list-columns.ensures.list (table_short c.args.table.now c.column_list-columns.ensures.proper).1
