-- the greatest of the turned values so far
use Rattle.std.proofs.Common.{◌≡◌, ◌-◌, ◌^◌, negsuc}
use Rattle.std.specs.Int.{int_max}
use Rattle.bit_interleave.specs.Range.{value_at}
use Rattle.native_lanes.specs.Folds.{fold_to}
use Rattle.table_model.specs.Extreme.{turned}
use Rattle.fused_kernels.proofs.run_folds.extreme_of_all.Given as goal

abbrev pub invariant-loop-i : goal.invariant-loop-i
invariant-loop-i l = l.greatest ≡ fold_to int_max (negsuc (2 ^ 63 - 1)) l.i (λ i. turned l.side (value_at l.values.values i))
