-- the words so far
use Rattle.std.proofs.Common.{◌≡◌, ℕ, ◌+◌, ◌*◌, ◌%◌, ◌<◌, length, slice_index}
use Rattle.std.specs.Int.{bit_at}
use Rattle.transpose_order.specs.Place.{lane_of}
use Rattle.native_lanes.proofs.native_16.mask_of_lanes.Given as goal

abbrev pub invariant-loop-j : goal.invariant-loop-j
invariant-loop-j l = record {
  long : length l.words ≡ 16;
  done : (j p : ℕ) → j < l.j → p < 64 → bit_at (slice_index l.words j) p ≡ bit_at (slice_index l.marks (lane_of 16 (64 * j + p))) (p % 16);
}
