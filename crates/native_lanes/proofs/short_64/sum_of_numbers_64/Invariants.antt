-- in each lane, the sum of the numbers of the steps so far, which are below 2 ^ 58
use Rattle.std.proofs.Common.{◌≡◌, ℕ, ◌*◌, ◌+◌, ◌^◌, ◌<◌, ◌≤◌, cond, slice_index}
use Rattle.transpose_order.specs.Mask.{has}
use Rattle.transpose_order.specs.Place.{row_at}
use Rattle.bit_interleave.specs.Packing.{packed_value}
use Rattle.native_lanes.specs.Folds.{fold_to}
use Rattle.native_lanes.proofs.short_64.sum_of_numbers_64.Given as goal

abbrev pub invariant-loop-step : goal.invariant-loop-step
invariant-loop-step l = record {
  sums : (lane : ℕ) → lane < 16 → slice_index l.sums lane ≡ fold_to ◌+◌ 0 l.step (λ s. cond (has l.rows (row_at 64 lane s)) (packed_value 64 l.width l.words lane s) 0);
  bound : (lane : ℕ) → lane < 16 → slice_index l.sums lane ≤ 2 ^ 58 * l.step;
}
