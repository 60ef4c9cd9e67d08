-- The kernel's masks are those of the comparison of both cells.
use Rattle.std.proofs.Common.{ap, ◌∙◌}
use Rattle.store_view.specs.View.{ViewForm}
use Rattle.store_view.proofs.view.StoreViewColumns.compare_columns.Goals as goal
use Rattle.table_model.specs.Truth.{comparison}
use Rattle.query_eval.specs.Pairs.{yes_of, no_of}
use Rattle.query_eval.specs.Vector.{vector_at, cell_at}
use Rattle.store_view.proofs.KernelLemmas.{columns_yes, columns_no}

pub returns-clause-yes : goal.returns-clause-yes
returns-clause-yes c =
    let s = c.self.inside.store.now.replica.state in
    c.compare_vectors.ensures.yes
    ∙ columns_yes c.vector_in-left.result.now c.vector_in-right.result.now (vector_at s c.args.id.batch c.args.id.vector) c.args.left c.args.right c.vector_in-left.ensures c.vector_in-right.ensures c.args.op c.args.mask.now
    ∙ ap (λ (v : ViewForm). yes_of c.args.mask.now (λ n. comparison c.args.op (cell_at (vector_at v.state c.args.id.batch c.args.id.vector) c.args.left n) (cell_at (vector_at v.state c.args.id.batch c.args.id.vector) c.args.right n))) c.self.view_is

pub returns-clause-no : goal.returns-clause-no
returns-clause-no c =
    let s = c.self.inside.store.now.replica.state in
    c.compare_vectors.ensures.no
    ∙ columns_no c.vector_in-left.result.now c.vector_in-right.result.now (vector_at s c.args.id.batch c.args.id.vector) c.args.left c.args.right c.vector_in-left.ensures c.vector_in-right.ensures c.args.op c.args.mask.now
    ∙ ap (λ (v : ViewForm). no_of c.args.mask.now (λ n. comparison c.args.op (cell_at (vector_at v.state c.args.id.batch c.args.id.vector) c.args.left n) (cell_at (vector_at v.state c.args.id.batch c.args.id.vector) c.args.right n))) c.self.view_is
