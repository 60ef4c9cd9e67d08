-- A column that the table hasn't is null at each row.
use Rattle.std.proofs.Common.{◌≤◌, length, subst}
use Rattle.table_model.specs.Meaning.{place_of}
use Rattle.table_model.specs.Table.{Table}
use Rattle.query_eval.proofs.Missing.{missing_operand}
use Rattle.query_eval.proofs.filter.side.side_of.Goals as goal

pub returns-in-None-clause-value : goal.returns-in-None-clause-value
returns-in-None-clause-value g c =
    let past = subst (λ (t : Table). length t.columns ≤ place_of t.columns c.in-Column.column.name) c.schema.ensures (c.place_of.ensures.none c.in-None.is) in
    missing_operand (g.C.Columns.seen c.args.columns.now).table (g.C.Columns.seen c.args.columns.now).state c.in-Column.column c.args.operand.now c.in-Column.is past c.state_is_within_limits.ensures
