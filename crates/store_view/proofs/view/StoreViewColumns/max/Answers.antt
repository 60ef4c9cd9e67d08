-- The kernel's fold is over the values that the query looks at.
use Rattle.std.proofs.Common.{ap, ◌∙◌}
use Rattle.store_view.specs.View.{ViewForm}
use Rattle.store_view.proofs.view.StoreViewColumns.max.Goals as goal
use Rattle.table_model.specs.Values.{greatest}
use Rattle.query_eval.specs.Vector.{vector_at, looked_at}
use Rattle.store_view.proofs.KernelLemmas.{same_values}

pub returns-clause-value : goal.returns-clause-value
returns-clause-value c =
    let s = c.self.inside.store.now.replica.state in
    c.vector_extreme.ensures.value
    ∙ ap greatest (same_values c.vector_in-found.result.now (vector_at s c.args.id.batch c.args.id.vector) c.args.column c.vector_in-found.ensures c.args.mask.now)
    ∙ ap (λ (v : ViewForm). greatest (looked_at (vector_at v.state c.args.id.batch c.args.id.vector) c.args.column c.args.mask.now)) c.self.view_is
