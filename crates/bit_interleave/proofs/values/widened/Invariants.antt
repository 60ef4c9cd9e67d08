-- The values so far are written.
use Rattle.std.proofs.Common.{◌≡◌, map, length, take}
use Rattle.bit_interleave.proofs.values.widened.Given as goal

abbrev pub invariant-loop-i : goal.invariant-loop-i
invariant-loop-i g l = record { long : length l.room ≡ 1024; written : take l.i l.room ≡ map g.V.LaneValue.value (take l.i l.values) }
