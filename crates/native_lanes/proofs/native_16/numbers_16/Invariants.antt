-- The lanes so far.
use Rattle.std.proofs.Common.{◌≡◌, ℕ, ◌<◌, length, slice_index}
use Rattle.bit_interleave.specs.Packing.{packed_value}
use Rattle.native_lanes.proofs.native_16.numbers_16.Given as goal

abbrev pub invariant-loop-i : goal.invariant-loop-i
invariant-loop-i l = record {
  long : length l.numbers ≡ 64;
  done : (k : ℕ) → k < l.i → slice_index l.numbers k ≡ packed_value 16 l.width l.words k l.step;
}

abbrev pub invariant-loop-i-2 : goal.invariant-loop-i-2
invariant-loop-i-2 l = record {
  long : length l.numbers ≡ 64;
  done : (k : ℕ) → k < l.i → slice_index l.numbers k ≡ packed_value 16 l.width l.words k l.step;
}
