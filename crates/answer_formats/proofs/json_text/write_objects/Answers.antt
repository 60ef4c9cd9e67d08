use Rattle.std.proofs.Common.{◌≡◌, ◌∙◌, ◌++◌, List, ℕ, ap, sym, arith, map}
use Rattle.std.specs.List.{flat_map}
use Rattle.std.specs.String.{string_bytes}
use Rattle.std.proofs.lemmas.Grind.{common_steps}
use Rattle.answer_formats.specs.Formats.{json_object}
use Rattle.answer_formats.proofs.TextFormats.{json_lines}
use Rattle.answer_formats.proofs.json_text.write_objects.Goals as goal

pub returns : goal.returns
returns c =
    let headings : List (List ℕ) = map string_bytes c.args.headings.now in
    let whole : c.loop-row.out.items ≡ c.args.out.now.items ++ flat_map (json_object headings) c.args.rows.now = grind (arith, common_steps) in
    whole ∙ ap (λ (text : List ℕ). c.args.out.now.items ++ text) (sym (json_lines headings c.args.rows.now))
