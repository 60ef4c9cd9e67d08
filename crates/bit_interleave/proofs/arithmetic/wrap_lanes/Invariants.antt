-- The lanes so far are wrapped.
use Rattle.std.proofs.Common.{◌≡◌, ℕ, ◌<◌, pos, length, slice_index, slice_index_or}
use Rattle.std.specs.Int.{int_wrap}
use Rattle.bit_interleave.specs.Arithmetic.{integer_width}
use Rattle.bit_interleave.proofs.arithmetic.wrap_lanes.Given as goal

abbrev pub invariant-loop-i : goal.invariant-loop-i
invariant-loop-i l = record {
  long : length l.wrapped ≡ 16;
  done : (k : ℕ) → k < l.i → slice_index_or l.wrapped k (pos 0) ≡ int_wrap (integer_width l.lane_width) (pos (slice_index l.numbers k));
}
