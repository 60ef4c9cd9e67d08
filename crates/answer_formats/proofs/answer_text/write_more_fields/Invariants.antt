use Rattle.std.proofs.Common.{◌≡◌, ◌++◌, take}
use Rattle.std.specs.List.{flat_map}
use Rattle.table_model.specs.Answer.{field_text}
use Rattle.answer_formats.proofs.AnswerTexts.{comma}
use Rattle.answer_formats.proofs.answer_text.write_more_fields.Given as goal

abbrev pub invariant-loop-field : goal.invariant-loop-field
invariant-loop-field l = l.out.items ≡ l.initial.out.items ++ flat_map (comma field_text) (take l.field-index l.fields)
