-- One column more; at the end there is none left.
use Rattle.std.proofs.Common.{◌<◌, length, ap, arith}
use Rattle.std.proofs.lemmas.Grind.{common_steps}
use Rattle.replica_reports.proofs.LinesInColumns.{widths_next}
use Rattle.replica_reports.proofs.columns_text.widths.Goals as goal

pub loop-column-preserved : goal.loop-column-preserved
loop-column-preserved c =
    let below : c.loop-column.column < length c.args.heading.now = grind (arith, common_steps) in
    widths_next c.args.heading.now c.args.lines.now c.loop-column.column (length c.cell.result.now) c.column_width.result c.loop-column.all.items c.push.new.self.items below
    c.loop-column.invariant (ap length c.cell.ensures) c.column_width.ensures c.in_ok-push.ensures.items
