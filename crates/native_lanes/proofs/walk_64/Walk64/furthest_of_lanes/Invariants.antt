-- in each lane, its number, and the one of the steps so far that is furthest
use Rattle.std.proofs.Common.{◌≡◌, ℕ, ◌<◌, max, cond, slice_index}
use Rattle.transpose_order.specs.Mask.{has}
use Rattle.transpose_order.specs.Place.{row_at}
use Rattle.native_lanes.specs.Folds.{fold_to}
use Rattle.native_lanes.specs.Walks.{number_before, number_at, turned, half_on}
use Rattle.native_lanes.proofs.walk_64.Walk64.furthest_of_lanes.Given as goal

abbrev pub invariant-loop-step : goal.invariant-loop-step
invariant-loop-step l = record {
  numbers : (lane : ℕ) → lane < 16 → slice_index l.numbers lane ≡ number_before l.self lane l.step;
  furthest : (lane : ℕ) → lane < 16 → turned 64 l.flipped (half_on (slice_index l.furthest lane))
      ≡ fold_to max 0 l.step (λ s. cond (has l.rows (row_at 64 lane s)) (turned 64 l.flipped (half_on (number_at l.self lane s))) 0);
}
