use Rattle.std.proofs.Common.{◌≡◌, ◌++◌, ◌∷◌, [], take, map}
use Rattle.std.specs.String.{string_bytes}
use Rattle.answer_formats.specs.Formats.{separated, json_members}
use Rattle.answer_formats.proofs.json_text.write_members.Given as goal

abbrev pub invariant-loop-index : goal.invariant-loop-index
invariant-loop-index l = l.out.items ≡ l.initial.out.items ++ separated (44 ∷ []) (take l.index (json_members (map string_bytes l.headings) l.fields))
