-- the rows of the runs so far are found where their value is in the range
use Rattle.std.proofs.Common.{◌≡◌, ℕ, ◌<◌, ◌&&◌, nat_lt}
use Rattle.transpose_order.specs.Mask.{truth_at}
use Rattle.run_dictionary.specs.Runs.{run_value}
use Rattle.fused_kernels.specs.Seen.{between}
use Rattle.fused_kernels.proofs.RunLemmas.{BeginsRun}
use Rattle.fused_kernels.proofs.runs.runs_between.Given as goal

abbrev pub invariant-loop-run : goal.invariant-loop-run
invariant-loop-run l = record {
  begins : BeginsRun l.form l.row l.run;
  found : (n : ℕ) → n < 1024 → truth_at l.found n ≡ (nat_lt n l.row && between l.low l.high (run_value l.form n));
}
