-- As many values are looked at as rows.
use Rattle.std.proofs.Common.{length, ap, ◌∙◌}
use Rattle.store_view.specs.View.{ViewForm}
use Rattle.store_view.proofs.view.StoreViewColumns.count.Goals as goal
use Rattle.query_eval.specs.Vector.{vector_at, looked_at}
use Rattle.store_view.proofs.KernelLemmas.{same_values}

pub returns : goal.returns
returns c =
    let s = c.self.inside.store.now.replica.state in
    c.count.ensures
    ∙ ap length (same_values c.vector_in-found.result.now (vector_at s c.args.id.batch c.args.id.vector) c.args.column c.vector_in-found.ensures c.args.mask.now)
    ∙ ap (λ (v : ViewForm). length (looked_at (vector_at v.state c.args.id.batch c.args.id.vector) c.args.column c.args.mask.now)) c.self.view_is
