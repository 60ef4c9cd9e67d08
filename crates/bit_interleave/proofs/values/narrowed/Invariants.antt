-- The values so far are the numbers so far.
use Rattle.std.proofs.Common.{◌≡◌, map, take}
use Rattle.bit_interleave.proofs.values.narrowed.Given as goal

abbrev pub invariant-loop-number : goal.invariant-loop-number
invariant-loop-number g l = map g.V.LaneValue.value l.values.items ≡ take l.number-index l.numbers
