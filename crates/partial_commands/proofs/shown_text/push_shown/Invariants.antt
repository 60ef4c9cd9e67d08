-- The bytes before this one are there, as they are shown.
use Rattle.std.proofs.Common.{◌≡◌, ◌++◌, map, take}
use Rattle.partial_commands.specs.Coverage.{shown_byte}
use Rattle.partial_commands.proofs.shown_text.push_shown.Given as goal

abbrev pub invariant-loop-byte : goal.invariant-loop-byte
invariant-loop-byte l = l.out.items ≡ l.initial.out.items ++ map shown_byte (take l.byte-index l.text)
