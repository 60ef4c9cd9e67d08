-- Each row has the value of its run.
use Rattle.std.proofs.Common.{rules, ◌≡◌}
use Rattle.segment_core.specs.declared.coded.Coded.TheVariants.{Runs as InRuns}
use Rattle.fused_kernels.proofs.RowRunLemmas.{row_runs}
use Rattle.fused_kernels.proofs.row_runs.vector_runs_into.Goals as goal

pub returns-in-Runs-clause-runs : goal.returns-in-Runs-clause-runs
returns-in-Runs-clause-runs c =
    let coded : c.args.vector.now.coded ≡ InRuns c.get-runs.result.now = search rules in
    row_runs c.args.vector.now c.get-runs.result.now c.starts.result.now c.write_run_values.new.values coded c.starts.ensures.form c.starts.ensures.value c.write_run_values.ensures
