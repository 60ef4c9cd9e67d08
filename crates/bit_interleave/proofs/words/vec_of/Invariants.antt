-- The words so far are the numbers so far.
use Rattle.std.proofs.Common.{◌≡◌, map, take}
use Rattle.bit_interleave.proofs.words.vec_of.Given as goal

abbrev pub invariant-loop-number : goal.invariant-loop-number
invariant-loop-number g l = map g.U.LaneWord.number l.words.items ≡ take l.number-index l.numbers
