-- the rows before the row are summed
use Rattle.std.proofs.Common.{◌≡◌, cond, pos, ◌+ℤ◌}
use Rattle.transpose_order.specs.Mask.{has, count_below}
use Rattle.run_dictionary.specs.Runs.{run_value}
use Rattle.native_lanes.specs.Folds.{fold_to}
use Rattle.fused_kernels.proofs.RunLemmas.{BeginsRun}
use Rattle.fused_kernels.proofs.run_folds.sum_of_runs.Given as goal

abbrev pub invariant-loop-run : goal.invariant-loop-run
invariant-loop-run l = record {
  begins : BeginsRun l.form l.row l.run;
  before : l.before ≡ count_below (has l.rows) l.row;
  sum : l.sum ≡ fold_to ◌+ℤ◌ (pos 0) l.row (λ n. cond (has l.rows n) (run_value l.form n) (pos 0));
}
