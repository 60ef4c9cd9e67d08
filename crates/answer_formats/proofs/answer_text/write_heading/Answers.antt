use Rattle.std.proofs.Common.{◌∙◌, ap, List, ℕ, ◌++◌}
use Rattle.std.specs.String.{string_bytes}
use Rattle.answer_formats.proofs.AnswerTexts.{line_written}
use Rattle.answer_formats.proofs.answer_text.write_heading.Goals as goal

pub returns : goal.returns
returns c =
    line_written string_bytes c.args.texts.now c.in-Some.first.now c.in-Some.rest.now c.args.out.now.items c.extend_from_slice-2.new.self.items c.write_more_texts.new.out.items c.extend_from_slice-3.new.self.items
    c.in-Some.ensures.cases.0 (c.in_ok-extend_from_slice.ensures.items ∙ ap (λ (t : List ℕ). c.args.out.now.items ++ t) c.as_bytes.ensures.value) c.in_ok-write_more_texts.ensures c.in_ok-extend_from_slice-2.ensures.items
