-- One line more; at the end none is left.
use Rattle.std.proofs.Common.{◌≤◌, List, length, ap, arith}
use Rattle.table_model.specs.Table.{Table, ColumnShape}
use Rattle.replica_reports.specs.ColumnFigures.{column_lines}
use Rattle.replica_reports.proofs.ColumnLines.{lines_next, lines_end}
use Rattle.replica_reports.proofs.CountedBatches.{has_one}
use Rattle.replica_reports.proofs.report.column_lines.Goals as goal

pub loop-place-preserved : goal.loop-place-preserved
loop-place-preserved c =
    let columns : List ColumnShape = c.args.store.now.replica.schema.columns in
    let one = has_one columns c.loop-place.place (omega (arith, c.loop-place-test.true, c.columns-columns.ensures.count, ap (λ (t : Table). length t.columns) c.schema.ensures)) in
    lines_next c.args.store.now columns c.loop-place.place one.0 c.loop-place.lines.items c.push.new.self.items c.in_ok-column_line.field-0 (column_lines c.args.store.now 0 columns)
    one.1 (c.in_ok-column_line.ensures one.0 one.1) c.in_ok-push.ensures.items c.loop-place.invariant

pub returns : goal.returns
returns c =
    let columns : List ColumnShape = c.args.store.now.replica.schema.columns in
    let end : length columns ≤ c.loop-place.place = omega (arith, c.loop-place-test.false, c.columns-columns.ensures.count, ap (λ (t : Table). length t.columns) c.schema.ensures) in
    lines_end c.args.store.now columns c.loop-place.place c.loop-place.lines.items (column_lines c.args.store.now 0 columns) end c.loop-place.invariant
