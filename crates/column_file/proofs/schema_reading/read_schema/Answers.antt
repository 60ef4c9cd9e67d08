use Rattle.std.proofs.Common.{map, List, ℕ, inr, arith}
use Rattle.std.proofs.lemmas.Result.{err_from_is_err_and}
use Rattle.table_model.specs.Table.{schema_of}
use Rattle.segment_core.proofs.FormatLaws.{bytes_at}
use Rattle.column_file.proofs.SchemaReading.{Asked, shape, asked, table_of, schema_read, asked_is, only_memory, one_table}
use Rattle.column_file.proofs.schema_reading.read_schema.Goals as goal

pub returns-in_err-schema : goal.returns-in_err-schema
returns-in_err-schema c =
    let p = err_from_is_err_and c.from_residual-in_err-schema.result c.from_residual-in_err-schema.ensures.1 in
    let n : List ℕ = c.in_ok-table.table.now in
    let items : List Asked = c.in_ok-columns.columns.items in
    let whole = schema_read c.args.version c.args.total c.args.bytes.now c.in_ok-count.count c.in_ok-count.after_count.now n c.in_ok-table.after_table.now (map shape items) c.in_ok-columns.rest.now c.in_ok-count.ensures.read c.in_ok-table.ensures.read c.in_ok-columns.ensures in
    let given = asked_is c.args.version c.args.total c.args.bytes.now n items c.in_ok-columns.rest.now (bytes_at c.args.bytes.now (λ i. omega (arith, c.type_inv.bytes i))) whole in
    let lacks = only_memory (schema_of n (map asked items)) (table_of n (map shape items)) c.in_err-schema.field-0.0 given (rw c.as_slice.ensures.value at c.in_err-schema.ensures) in
    rw (p.1, p.2) (inr lacks)

pub returns : goal.returns
returns c =
    let n : List ℕ = c.in_ok-table.table.now in
    let items : List Asked = c.in_ok-columns.columns.items in
    let whole = schema_read c.args.version c.args.total c.args.bytes.now c.in_ok-count.count c.in_ok-count.after_count.now n c.in_ok-table.after_table.now (map shape items) c.in_ok-columns.rest.now c.in_ok-count.ensures.read c.in_ok-table.ensures.read c.in_ok-columns.ensures in
    let given = asked_is c.args.version c.args.total c.args.bytes.now n items c.in_ok-columns.rest.now (bytes_at c.args.bytes.now (λ i. omega (arith, c.type_inv.bytes i))) whole in
    let same = one_table (schema_of n (map asked items)) (table_of n (map shape items)) c.in_ok-schema.schema given (rw c.as_slice.ensures.value at c.in_ok-schema.ensures) in
    rw (← same) whole
