-- The bases of the lanes so far.
use Rattle.std.proofs.Common.{◌≡◌, ℕ, ◌<◌, ◌-ℤ◌, length}
use Rattle.std.specs.Int.{int_wrap}
use Rattle.transpose_order.specs.Place.{row_at}
use Rattle.bit_interleave.specs.Arithmetic.{integer_width}
use Rattle.bit_interleave.specs.Range.{value_at}
use Rattle.frame_delta.proofs.differences.bases_of.Given as goal

abbrev pub invariant-loop-lane : goal.invariant-loop-lane
invariant-loop-lane l = record {
  long : length l.bases ≡ 128;
  done : (k : ℕ) → k < l.lane → value_at l.bases k ≡ int_wrap (integer_width l.lane_width) (value_at l.values (row_at l.lane_width k 0) -ℤ l.least);
}
