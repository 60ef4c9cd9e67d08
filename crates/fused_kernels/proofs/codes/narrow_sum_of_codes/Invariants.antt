-- the steps so far are added up, each over its lanes
use Rattle.std.proofs.Common.{◌≡◌, ◌*◌, ◌^◌, cond, pos, ◌+ℤ◌, ◌-ℤ◌, ◌≤ℤ◌}
use Rattle.transpose_order.specs.Mask.{has}
use Rattle.transpose_order.specs.Place.{row_at}
use Rattle.run_dictionary.specs.Dict.{dict_value}
use Rattle.native_lanes.specs.Folds.{fold_to}
use Rattle.fused_kernels.proofs.codes.narrow_sum_of_codes.Given as goal

abbrev pub invariant-loop-step : goal.invariant-loop-step
invariant-loop-step l = record {
  sum : l.sum ≡ fold_to ◌+ℤ◌ (pos 0) l.step (λ s. fold_to ◌+ℤ◌ (pos 0) 64 (λ lane. cond (has l.rows (row_at 16 lane s)) (dict_value l.form (row_at 16 lane s)) (pos 0)));
  least : (pos 0 -ℤ pos (2 ^ 31 * (64 * l.step))) ≤ℤ l.sum;
  most : l.sum ≤ℤ pos (2 ^ 31 * (64 * l.step));
}
