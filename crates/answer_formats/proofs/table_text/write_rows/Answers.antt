use Rattle.std.proofs.Common.{◌≡◌, ◌∙◌, ◌++◌, List, ℕ, ap, sym, arith}
use Rattle.std.specs.List.{flat_map}
use Rattle.std.proofs.lemmas.Grind.{common_steps}
use Rattle.answer_formats.proofs.TextFormats.{table_line, table_lines_of}
use Rattle.answer_formats.proofs.table_text.write_rows.Goals as goal

pub returns : goal.returns
returns c =
    let whole : c.loop-row.out.items ≡ c.args.out.now.items ++ flat_map (table_line c.args.widths.now) c.args.rows.now = grind (arith, common_steps) in
    whole ∙ ap (λ (text : List ℕ). c.args.out.now.items ++ text) (sym (table_lines_of c.args.widths.now c.args.rows.now))
