-- One line more.
use Rattle.std.proofs.Common.{◌≡◌, [], length, get_or, max, arith}
use Rattle.std.proofs.lemmas.Grind.{common_steps}
use Rattle.replica_reports.proofs.LinesInColumns.{widest_next}
use Rattle.replica_reports.proofs.columns_text.column_width.Goals as goal

pub loop-line-preserved : goal.loop-line-preserved
loop-line-preserved c =
    let wider : c.max-width.result ≡ max c.loop-line.width (length c.cell.result.now) = grind (arith, common_steps) in
    let text : length c.cell.result.now ≡ length (get_or (get_or c.args.lines.now c.loop-line.line-index []) c.args.column []) = grind (arith, common_steps) in
    widest_next c.args.column c.args.heading c.args.lines.now c.loop-line.line-index c.loop-line.width (length c.cell.result.now) c.max-width.result c.loop-line-test.true c.loop-line.invariant text wider
