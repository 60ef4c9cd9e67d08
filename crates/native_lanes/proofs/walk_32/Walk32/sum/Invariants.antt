-- in each lane, its number, and the sum of the steps so far in two parts
use Rattle.std.proofs.Common.{◌≡◌, ℕ, ◌+◌, ◌*◌, ◌^◌, ◌<◌, ◌≤◌, cond, slice_index}
use Rattle.transpose_order.specs.Mask.{has}
use Rattle.transpose_order.specs.Place.{row_at}
use Rattle.native_lanes.specs.Folds.{fold_to}
use Rattle.native_lanes.specs.Walks.{number_before, number_at}
use Rattle.native_lanes.proofs.walk_32.Walk32.sum.Given as goal

abbrev pub invariant-loop-step : goal.invariant-loop-step
invariant-loop-step l = record {
  numbers : (lane : ℕ) → lane < 32 → slice_index l.numbers lane ≡ number_before l.self lane l.step;
  low : (lane : ℕ) → lane < 32 → slice_index l.low lane ≤ 2 ^ 16 * l.step;
  high : (lane : ℕ) → lane < 32 → slice_index l.high lane ≤ 2 ^ 16 * l.step;
  sums : (lane : ℕ) → lane < 32 → slice_index l.low lane + 2 ^ 16 * slice_index l.high lane ≡ fold_to ◌+◌ 0 l.step (λ s. cond (has l.rows (row_at 32 lane s)) (number_at l.self lane s) 0);
}
