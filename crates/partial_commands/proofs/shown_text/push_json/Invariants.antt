-- The bytes before this one are there, as JSON has them.
use Rattle.std.proofs.Common.{◌≡◌, ◌++◌, take}
use Rattle.std.specs.List.{flat_map}
use Rattle.partial_commands.specs.Coverage.{json_byte}
use Rattle.partial_commands.proofs.shown_text.push_json.Given as goal

abbrev pub invariant-loop-byte : goal.invariant-loop-byte
invariant-loop-byte l = l.out.items ≡ l.initial.out.items ++ flat_map json_byte (take l.byte-index l.text)
