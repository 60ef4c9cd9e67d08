use Rattle.std.proofs.Common.{◌≡◌, ◌∙◌, ◌++◌, List, ℕ, ap, sym, arith}
use Rattle.std.specs.List.{flat_map}
use Rattle.std.proofs.lemmas.Grind.{common_steps}
use Rattle.answer_formats.proofs.TextFormats.{csv_line, csv_lines}
use Rattle.answer_formats.proofs.csv_text.write_rows.Goals as goal

pub returns : goal.returns
returns c =
    let whole : c.loop-row.out.items ≡ c.args.out.now.items ++ flat_map csv_line c.args.rows.now = grind (arith, common_steps) in
    whole ∙ ap (λ (text : List ℕ). c.args.out.now.items ++ text) (sym (csv_lines c.args.rows.now))
