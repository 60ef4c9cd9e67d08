use Rattle.std.proofs.Common.{◌≡◌, ◌∙◌, ◌++◌, ◌∷◌, [], ℕ, ◌<◌, List, length, map, get_or, ap, arith}
use Rattle.std.specs.String.{string_bytes}
use Rattle.std.proofs.lemmas.Grind.{common_steps}
use Rattle.answer_formats.proofs.TextFormats.{widths_next}
use Rattle.answer_formats.proofs.table_text.widths.Goals as goal

pub loop-column-preserved : goal.loop-column-preserved
loop-column-preserved c =
    let headings : List (List ℕ) = map string_bytes c.args.headings.now in
    let below : c.loop-column.column < length headings = grind (arith, common_steps) in
    let long : c.len-width.result ≡ length (get_or headings c.loop-column.column []) = grind (arith, common_steps) in
    widths_next headings c.args.rows.now c.loop-column.column c.len-width.result c.in_ok-column_width.field-0 c.loop-column.widths.items c.push.new.self.items below c.loop-column.invariant long c.in_ok-column_width.ensures c.in_ok-push.ensures.items
