use Rattle.std.proofs.Common.{map, ap, inl, not, ◌∙◌}
use Rattle.column_file.proofs.SchemaReading.{shape, new_name, column_good, column_bad}
use Rattle.column_file.proofs.schema_reading.read_column.Goals as goal

pub returns-then-is_name_among-clause-read : goal.returns-then-is_name_among-clause-read
returns-then-is_name_among-clause-read c =
    inl (column_bad c.args.version (map shape c.args.front.now) c.args.total c.args.bytes.now c.in_ok-column_type.column_type c.in_ok-column_type.rest.now c.in_ok-name.name.now c.in_ok-name.rest.now c.in_ok-column_type.ensures.read c.in_ok-name.ensures.read
    (new_name c.args.front.now c.in_ok-name.name.now c.in_ok-column_type.column_type c.is_name_among.result c.is_name_among.ensures ∙ ap not c.if-is_name_among.true))

pub returns-clause-read : goal.returns-clause-read
returns-clause-read c =
    column_good c.args.version (map shape c.args.front.now) c.args.total c.args.bytes.now c.in_ok-column_type.column_type c.in_ok-column_type.rest.now c.in_ok-name.name.now c.in_ok-name.rest.now c.in_ok-column_type.ensures.read c.in_ok-name.ensures.read
    (new_name c.args.front.now c.in_ok-name.name.now c.in_ok-column_type.column_type c.is_name_among.result c.is_name_among.ensures ∙ ap not c.if-is_name_among.false)
