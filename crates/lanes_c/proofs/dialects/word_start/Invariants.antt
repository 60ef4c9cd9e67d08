-- The bytes before the place, and where the word begins in those after it.
use Rattle.std.proofs.Common.{◌≡◌, ◌+◌, ◌-◌, ◌≤◌, drop}
use Rattle.lanes_c.specs.Dialects.{word_start}
use Rattle.lanes_c.proofs.dialects.word_start.Given as goal

abbrev pub invariant-loop-byte : goal.invariant-loop-byte
invariant-loop-byte l = record { start : l.at + word_start (drop l.byte-index l.words) l.before ≡ word_start l.words (l.number - 1); few : l.at ≤ l.byte-index }
