-- in each lane, the sum of the numbers of the steps so far, which are below 2 ^ 27
use Rattle.std.proofs.Common.{◌≡◌, ℕ, ◌*◌, ◌+◌, ◌^◌, ◌<◌, ◌≤◌, cond, slice_index}
use Rattle.transpose_order.specs.Mask.{has}
use Rattle.transpose_order.specs.Place.{row_at}
use Rattle.bit_interleave.specs.Packing.{packed_value}
use Rattle.native_lanes.specs.Folds.{fold_to}
use Rattle.native_lanes.proofs.short_32.sum_of_numbers_32.Given as goal

abbrev pub invariant-loop-step : goal.invariant-loop-step
invariant-loop-step l = record {
  sums : (lane : ℕ) → lane < 32 → slice_index l.sums lane ≡ fold_to ◌+◌ 0 l.step (λ s. cond (has l.rows (row_at 32 lane s)) (packed_value 32 l.width l.words lane s) 0);
  bound : (lane : ℕ) → lane < 32 → slice_index l.sums lane ≤ 2 ^ 27 * l.step;
}
