-- the lanes so far
use Rattle.std.proofs.Common.{◌≡◌, ℕ, ◌+◌, ◌%◌, ◌^◌, ◌<◌, length, slice_index}
use Rattle.native_lanes.proofs.walk_64.all_shifted.Given as goal

abbrev pub invariant-loop-lane : goal.invariant-loop-lane
invariant-loop-lane l = record {
  long : length l.shifted ≡ 16;
  done : (k : ℕ) → k < l.lane → slice_index l.shifted k ≡ (slice_index l.numbers k + l.offset) % 2 ^ 64;
}
