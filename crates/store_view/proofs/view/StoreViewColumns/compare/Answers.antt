-- The kernel's masks are those of the comparison of the cells.
use Rattle.std.proofs.Common.{ap, ◌∙◌, Some}
use Rattle.std.specs.Int.{w128}
use Rattle.std.proofs.lemmas.Int.{to_z-of_z}
use Rattle.store_view.specs.View.{ViewForm}
use Rattle.store_view.proofs.view.StoreViewColumns.compare.Goals as goal
use Rattle.table_model.specs.Truth.{comparison}
use Rattle.query_eval.specs.Pairs.{yes_of, no_of}
use Rattle.query_eval.specs.Vector.{vector_at, cell_at}
use Rattle.store_view.proofs.KernelLemmas.{compare_yes, compare_no}

pub returns-clause-yes : goal.returns-clause-yes
returns-clause-yes c =
    let s = c.self.inside.store.now.replica.state in
    c.compare_vector.ensures.yes
    ∙ compare_yes c.vector_in-found.result.now (vector_at s c.args.id.batch c.args.id.vector) c.args.column c.vector_in-found.ensures c.args.op _ c.args.mask.now
    ∙ ap (λ z. yes_of c.args.mask.now (λ n. comparison c.args.op (cell_at (vector_at s c.args.id.batch c.args.id.vector) c.args.column n) (Some z))) (to_z-of_z w128 c.args.literal c.ranges.literal)
    ∙ ap (λ (v : ViewForm). yes_of c.args.mask.now (λ n. comparison c.args.op (cell_at (vector_at v.state c.args.id.batch c.args.id.vector) c.args.column n) (Some c.args.literal))) c.self.view_is

pub returns-clause-no : goal.returns-clause-no
returns-clause-no c =
    let s = c.self.inside.store.now.replica.state in
    c.compare_vector.ensures.no
    ∙ compare_no c.vector_in-found.result.now (vector_at s c.args.id.batch c.args.id.vector) c.args.column c.vector_in-found.ensures c.args.op _ c.args.mask.now
    ∙ ap (λ z. no_of c.args.mask.now (λ n. comparison c.args.op (cell_at (vector_at s c.args.id.batch c.args.id.vector) c.args.column n) (Some z))) (to_z-of_z w128 c.args.literal c.ranges.literal)
    ∙ ap (λ (v : ViewForm). no_of c.args.mask.now (λ n. comparison c.args.op (cell_at (vector_at v.state c.args.id.batch c.args.id.vector) c.args.column n) (Some c.args.literal))) c.self.view_is
