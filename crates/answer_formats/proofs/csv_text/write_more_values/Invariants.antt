use Rattle.std.proofs.Common.{◌≡◌, ◌++◌, take}
use Rattle.std.specs.List.{flat_map}
use Rattle.answer_formats.specs.Formats.{csv_field}
use Rattle.answer_formats.proofs.AnswerTexts.{comma}
use Rattle.answer_formats.proofs.csv_text.write_more_values.Given as goal

abbrev pub invariant-loop-field : goal.invariant-loop-field
invariant-loop-field l = l.out.items ≡ l.initial.out.items ++ flat_map (comma csv_field) (take l.field-index l.fields)
