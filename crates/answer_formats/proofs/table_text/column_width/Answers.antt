use Rattle.std.proofs.Common.{◌≡◌, ◌∙◌, [], ℕ, List, length, get_or, max, ap, arith}
use Rattle.std.proofs.lemmas.Grind.{common_steps}
use Rattle.table_model.specs.declared.answer.Field.{Field}
use Rattle.answer_formats.specs.Formats.{text_at, widest}
use Rattle.answer_formats.proofs.TextFormats.{widest_next}
use Rattle.answer_formats.proofs.table_text.column_width.Goals as goal

pub loop-row-preserved : goal.loop-row-preserved
loop-row-preserved c =
    let wider : c.max-width.result ≡ max c.loop-row.width c.len.result = grind (arith, common_steps) in
    let text : c.len.result ≡ length (text_at c.args.column (get_or c.args.rows.now c.loop-row.row-index [])) = grind (arith, common_steps) in
    widest_next c.args.column c.args.heading c.args.rows.now c.loop-row.row-index c.loop-row.width c.len.result c.max-width.result c.loop-row-test.true c.loop-row.invariant text wider
