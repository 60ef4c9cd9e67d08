use Rattle.table_model.specs.Answer.{field_text}
use Rattle.answer_formats.proofs.AnswerTexts.{line_written}
use Rattle.answer_formats.proofs.answer_text.write_row.Goals as goal

pub returns : goal.returns
returns c =
    line_written field_text c.args.fields.now c.in-Some.first.now c.in-Some.rest.now c.args.out.now.items c.write_field.new.out.items c.write_more_fields.new.out.items c.extend_from_slice-2.new.self.items
    c.in-Some.ensures.cases.0 c.in_ok-write_field.ensures c.in_ok-write_more_fields.ensures c.in_ok-extend_from_slice.ensures.items
