use Rattle.answer_formats.specs.Formats.{csv_field}
use Rattle.answer_formats.proofs.AnswerTexts.{line_written}
use Rattle.answer_formats.proofs.csv_text.write_row.Goals as goal

pub returns : goal.returns
returns c =
    line_written csv_field c.args.fields.now c.in-Some.first.now c.in-Some.rest.now c.args.out.now.items c.write_value.new.out.items c.write_more_values.new.out.items c.extend_from_slice-2.new.self.items
    c.in-Some.ensures.cases.0 c.in_ok-write_value.ensures c.in_ok-write_more_values.ensures c.in_ok-extend_from_slice.ensures.items
