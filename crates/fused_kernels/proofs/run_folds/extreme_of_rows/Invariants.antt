-- the rows before the row are looked at
use Rattle.std.proofs.Common.{◌≡◌, cond, Some, None}
use Rattle.table_model.specs.Values.{greater}
use Rattle.transpose_order.specs.Mask.{has, count_below}
use Rattle.run_dictionary.specs.Runs.{run_value}
use Rattle.native_lanes.specs.Folds.{fold_to}
use Rattle.table_model.specs.Extreme.{turned}
use Rattle.fused_kernels.proofs.ExtremeLemmas.{or_bottom}
use Rattle.fused_kernels.proofs.RunLemmas.{BeginsRun}
use Rattle.fused_kernels.proofs.run_folds.extreme_of_rows.Given as goal

abbrev pub invariant-loop-run : goal.invariant-loop-run
invariant-loop-run l = record {
  begins : BeginsRun l.form l.row l.run;
  before : l.before ≡ count_below (has l.rows) l.row;
  greatest : l.greatest ≡ or_bottom (fold_to greater None l.row (λ n. cond (has l.rows n) (Some (turned l.side (run_value l.form n))) None));
}
