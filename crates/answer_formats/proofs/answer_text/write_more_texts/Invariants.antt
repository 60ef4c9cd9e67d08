use Rattle.std.proofs.Common.{◌≡◌, ◌++◌, take}
use Rattle.std.specs.List.{flat_map}
use Rattle.std.specs.String.{string_bytes}
use Rattle.answer_formats.proofs.AnswerTexts.{comma}
use Rattle.answer_formats.proofs.answer_text.write_more_texts.Given as goal

abbrev pub invariant-loop-text : goal.invariant-loop-text
invariant-loop-text l = l.out.items ≡ l.initial.out.items ++ flat_map (comma string_bytes) (take l.text-index l.texts)
