-- What is asked for is refused, or written, or memory lacks.
use Rattle.std.proofs.Common.{◌≡◌, Ok, Err, subst}
use Rattle.table_model.specs.Table.{Table as Schema}
use Rattle.live_columns.specs.Between.{rows_between}
use Rattle.lanes_c.specs.ColumnCalls.{ColumnRooms, ReadsChoice}
use Rattle.lanes_c.proofs.ColumnGivings.{puts-columns, puts-nothing, puts-refused}
use Rattle.lanes_c.proofs.columns.put_asked.Goals as goal

pub returns-in-Err : goal.returns-in-Err
returns-in-Err g c =
    let seen = g.C.Columns.seen c.args.view.now in
    puts-refused c.args.names.now c.args.condition.now seen.table (λ x. rows_between seen.table x seen.state c.args.batches.first c.args.batches.count) (record { values = c.args.values.now; valid = c.args.valid.now; nulls = c.args.nulls.now }) c.in-Err.fault
    (subst (λ (t : Schema). ReadsChoice (Err c.in-Err.fault) c.args.names.now c.args.condition.now t) c.schema.ensures c.in-Err.ensures.read)

pub returns-in-Ok-put_columns : goal.returns-in-Ok-put_columns
returns-in-Ok-put_columns g c =
    let seen = g.C.Columns.seen c.args.view.now in
    puts-columns c.args.names.now c.args.condition.now seen.table (λ x. rows_between seen.table x seen.state c.args.batches.first c.args.batches.count) c.in-Ok.choice c.in-Ok-put_columns.rows (record { values = c.args.values.now; valid = c.args.valid.now; nulls = c.args.nulls.now })
    (record { values = c.put_columns.new.values; valid = c.put_columns.new.valid; nulls = c.put_columns.new.nulls })
    (subst (λ (t : Schema). ReadsChoice (Ok c.in-Ok.choice) c.args.names.now c.args.condition.now t) c.schema.ensures c.in-Ok.ensures.read) c.in-Ok-put_columns.ensures.rows c.in-Ok-put_columns.ensures.put

pub returns : goal.returns
returns g c =
    let seen = g.C.Columns.seen c.args.view.now in
    let kept = c.in-Err-put_columns.ensures.kept in
    let old : ColumnRooms = record { values = c.args.values.now; valid = c.args.valid.now; nulls = c.args.nulls.now } in
    let new : ColumnRooms = record { values = c.put_columns.new.values; valid = c.put_columns.new.valid; nulls = c.put_columns.new.nulls } in
    let same : new ≡ old = λ i. record { values = kept.0 i; valid = kept.1 i; nulls = kept.2 i } in
    puts-nothing c.args.names.now c.args.condition.now seen.table (λ x. rows_between seen.table x seen.state c.args.batches.first c.args.batches.count) c.in-Ok.choice old new
    (subst (λ (t : Schema). ReadsChoice (Ok c.in-Ok.choice) c.args.names.now c.args.condition.now t) c.schema.ensures c.in-Ok.ensures.read) same
