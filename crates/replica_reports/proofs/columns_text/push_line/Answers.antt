-- One text more; then the line is ended.
use Rattle.std.proofs.Common.{◌∙◌, [], ◌∷◌, ℕ, ◌<◌, ◌≤◌, ◌⊎◌, List, length, get_or, ap, arith}
use Rattle.std.proofs.lemmas.Grind.{common_steps}
use Rattle.answer_formats.specs.Formats.{to_the_right, in_columns}
use Rattle.answer_formats.proofs.TextFormats.{next_written, columns_below, column_at, columns_end, line_ended}
use Rattle.replica_reports.proofs.columns_text.push_line.Goals as goal

pub loop-column-preserved : goal.loop-column-preserved
loop-column-preserved c =
    let texts : List (List ℕ) = c.args.line.now in
    let below : c.loop-column.column < length c.args.widths.now = grind (arith, common_steps) in
    let inside : c.loop-column.column < length texts = grind (arith, common_steps) in
    let width : ℕ = get_or c.args.widths.now c.loop-column.column 0 in
    next_written (32 ∷ 32 ∷ []) (in_columns c.args.widths.now texts) c.loop-column.column c.args.out.now.items c.loop-column.out.items c.separate.new.out.items c.push_cell.new.out.items
    (to_the_right width c.cell.result.now)
    (columns_below c.args.widths.now texts c.loop-column.column below inside)
    (ap (to_the_right width) c.cell.ensures ∙ column_at c.args.widths.now texts c.loop-column.column 0 [] below inside)
    c.loop-column.invariant c.in_ok-separate.ensures c.in_ok-push_cell.ensures

pub returns : goal.returns
returns c =
    let texts : List (List ℕ) = c.args.line.now in
    let end : (length c.args.widths.now ≤ c.loop-column.column) ⊎ (length texts ≤ c.loop-column.column) = grind (arith, common_steps) in
    line_ended (in_columns c.args.widths.now texts) c.loop-column.column c.args.out.now.items c.loop-column.out.items c.extend_from_slice.new.self.items
    (columns_end c.args.widths.now texts c.loop-column.column end) c.loop-column.invariant c.in_ok-extend_from_slice.ensures.items
