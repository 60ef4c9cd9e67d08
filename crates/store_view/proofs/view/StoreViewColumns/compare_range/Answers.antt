-- The kernel's masks are those of BETWEEN at the cells.
use Rattle.std.proofs.Common.{ap, ◌∙◌, Some, to_z, of_z}
use Rattle.std.specs.Int.{w128}
use Rattle.std.proofs.lemmas.Int.{to_z-of_z}
use Rattle.store_view.specs.View.{ViewForm}
use Rattle.store_view.proofs.view.StoreViewColumns.compare_range.Goals as goal
use Rattle.table_model.specs.Truth.{comparison, and_of}
use Rattle.table_model.specs.declared.op.Op.TheVariants.{GreaterOrEqual, LessOrEqual}
use Rattle.query_eval.specs.Pairs.{yes_of, no_of}
use Rattle.query_eval.specs.Vector.{vector_at, cell_at}
use Rattle.store_view.proofs.KernelLemmas.{range_yes, range_no}

pub returns-clause-yes : goal.returns-clause-yes
returns-clause-yes c =
    let s = c.self.inside.store.now.replica.state in
    c.compare_vector_range.ensures.yes
    ∙ range_yes c.vector_in-found.result.now (vector_at s c.args.id.batch c.args.id.vector) c.args.column c.vector_in-found.ensures _ _ c.args.mask.now
    ∙ ap (λ z. yes_of c.args.mask.now (λ n. and_of (comparison GreaterOrEqual (cell_at (vector_at s c.args.id.batch c.args.id.vector) c.args.column n) (Some z)) (comparison LessOrEqual (cell_at (vector_at s c.args.id.batch c.args.id.vector) c.args.column n) (Some (to_z w128 (of_z w128 c.args.high)))))) (to_z-of_z w128 c.args.low c.ranges.low)
    ∙ ap (λ z. yes_of c.args.mask.now (λ n. and_of (comparison GreaterOrEqual (cell_at (vector_at s c.args.id.batch c.args.id.vector) c.args.column n) (Some c.args.low)) (comparison LessOrEqual (cell_at (vector_at s c.args.id.batch c.args.id.vector) c.args.column n) (Some z)))) (to_z-of_z w128 c.args.high c.ranges.high)
    ∙ ap (λ (v : ViewForm). yes_of c.args.mask.now (λ n. and_of (comparison GreaterOrEqual (cell_at (vector_at v.state c.args.id.batch c.args.id.vector) c.args.column n) (Some c.args.low)) (comparison LessOrEqual (cell_at (vector_at v.state c.args.id.batch c.args.id.vector) c.args.column n) (Some c.args.high)))) c.self.view_is

pub returns-clause-no : goal.returns-clause-no
returns-clause-no c =
    let s = c.self.inside.store.now.replica.state in
    c.compare_vector_range.ensures.no
    ∙ range_no c.vector_in-found.result.now (vector_at s c.args.id.batch c.args.id.vector) c.args.column c.vector_in-found.ensures _ _ c.args.mask.now
    ∙ ap (λ z. no_of c.args.mask.now (λ n. and_of (comparison GreaterOrEqual (cell_at (vector_at s c.args.id.batch c.args.id.vector) c.args.column n) (Some z)) (comparison LessOrEqual (cell_at (vector_at s c.args.id.batch c.args.id.vector) c.args.column n) (Some (to_z w128 (of_z w128 c.args.high)))))) (to_z-of_z w128 c.args.low c.ranges.low)
    ∙ ap (λ z. no_of c.args.mask.now (λ n. and_of (comparison GreaterOrEqual (cell_at (vector_at s c.args.id.batch c.args.id.vector) c.args.column n) (Some c.args.low)) (comparison LessOrEqual (cell_at (vector_at s c.args.id.batch c.args.id.vector) c.args.column n) (Some z)))) (to_z-of_z w128 c.args.high c.ranges.high)
    ∙ ap (λ (v : ViewForm). no_of c.args.mask.now (λ n. and_of (comparison GreaterOrEqual (cell_at (vector_at v.state c.args.id.batch c.args.id.vector) c.args.column n) (Some c.args.low)) (comparison LessOrEqual (cell_at (vector_at v.state c.args.id.batch c.args.id.vector) c.args.column n) (Some c.args.high)))) c.self.view_is
