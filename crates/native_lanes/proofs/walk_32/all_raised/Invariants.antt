-- the lanes so far
use Rattle.std.proofs.Common.{◌≡◌, ℕ, ◌^◌, ◌<◌, length, slice_index, pos, ◌+ℤ◌}
use Rattle.bit_interleave.specs.Range.{value_at}
use Rattle.native_lanes.proofs.walk_32.all_raised.Given as goal

abbrev pub invariant-loop-lane : goal.invariant-loop-lane
invariant-loop-lane l = record {
  long : length l.numbers ≡ 32;
  done : (k : ℕ) → k < l.lane → pos (slice_index l.numbers k) ≡ value_at l.values k +ℤ pos (2 ^ 31);
}
