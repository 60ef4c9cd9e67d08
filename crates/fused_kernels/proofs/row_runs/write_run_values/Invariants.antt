-- the values of the runs so far are written
use Rattle.std.proofs.Common.{◌≡◌, ℕ, ◌<◌, length}
use Rattle.bit_interleave.specs.Range.{value_at}
use Rattle.fused_kernels.proofs.row_runs.write_run_values.Given as goal

abbrev pub invariant-loop-run : goal.invariant-loop-run
invariant-loop-run l = record {
  long : length l.values ≡ 1024;
  written : (k : ℕ) → k < l.run → value_at l.values k ≡ value_at l.form.values k;
}
