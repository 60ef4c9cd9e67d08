-- The runs of the vector are those of the column.
use Rattle.std.proofs.Common.{subst}
use Rattle.store_view.specs.View.{ViewForm}
use Rattle.store_view.proofs.view.StoreViewColumns.runs_into.Goals as goal
use Rattle.query_eval.specs.Coded.{AreRuns}
use Rattle.query_eval.specs.Vector.{vector_at}
use Rattle.store_view.proofs.KernelLemmas.{view_runs}

pub returns-clause-runs : goal.returns-clause-runs
returns-clause-runs c =
    let s = c.self.inside.store.now.replica.state in
    subst (λ (v : ViewForm). AreRuns (vector_at v.state c.args.id.batch c.args.id.vector) c.args.column c.in_ok-starts.starts c.vector_runs_into.new.values) c.self.view_is
    (view_runs c.vector_in-found.result.now (vector_at s c.args.id.batch c.args.id.vector) c.args.column c.in_ok-starts.starts c.vector_runs_into.new.values c.vector_in-found.ensures c.in_ok-starts.ensures.runs)
