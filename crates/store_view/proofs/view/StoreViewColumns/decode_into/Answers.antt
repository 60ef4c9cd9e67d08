-- A cell that isn't null is decoded.
use Rattle.std.proofs.Common.{ap, ◌∙◌, ℤ}
use Rattle.store_view.specs.View.{ViewForm}
use Rattle.store_view.proofs.view.StoreViewColumns.decode_into.Goals as goal
use Rattle.query_eval.specs.Vector.{vector_at, cell_at}
use Rattle.store_view.proofs.KernelLemmas.{decoded}
use Rattle.std.proofs.Common.{List, get_or, pos}

pub returns-clause-values : goal.returns-clause-values
returns-clause-values c n z low cell =
    let s = c.self.inside.store.now.replica.state in
    ap (λ (values : List ℤ). get_or values n (pos 0)) c.decode_vector.ensures.values
    ∙ decoded c.vector_in-found.result.now (vector_at s c.args.id.batch c.args.id.vector) c.args.column c.vector_in-found.ensures n z low (ap (λ (v : ViewForm). cell_at (vector_at v.state c.args.id.batch c.args.id.vector) c.args.column n) c.self.view_is ∙ cell)
