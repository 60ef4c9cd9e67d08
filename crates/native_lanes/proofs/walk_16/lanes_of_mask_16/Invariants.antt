-- the groups so far
use Rattle.std.proofs.Common.{◌≡◌, ◌==◌, ℕ, ◌*◌, ◌<◌, slice_index}
use Rattle.std.specs.Int.{bit_at}
use Rattle.transpose_order.specs.Mask.{has}
use Rattle.transpose_order.specs.Place.{row_at}
use Rattle.native_lanes.proofs.walk_16.lanes_of_mask_16.Given as goal

abbrev pub invariant-loop-group : goal.invariant-loop-group
invariant-loop-group l = record {
  done : (lane step : ℕ) → lane < 16 * l.group → step < 16 → (bit_at (slice_index l.lanes lane) step == 1) ≡ has l.mask (row_at 16 lane step);
}
