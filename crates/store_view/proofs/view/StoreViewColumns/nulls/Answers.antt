-- The rows of the null mask, and those past the rows of the vector.
use Rattle.std.proofs.Common.{ap, ◌∙◌}
use Rattle.store_view.specs.View.{ViewForm}
use Rattle.store_view.proofs.view.StoreViewColumns.nulls.Goals as goal
use Rattle.table_model.specs.Answer.{whole}
use Rattle.table_model.specs.Condition.{is_null}
use Rattle.transpose_order.specs.Mask.{rows_of}
use Rattle.transpose_order.specs.MaskWords.{rows_of-like}
use Rattle.query_eval.specs.Vector.{vector_at, cell_at}
use Rattle.store_view.proofs.KernelLemmas.{null_at}

pub returns : goal.returns
returns c =
    let s = c.self.inside.store.now.replica.state in
    c.missing_rows.ensures
    ∙ rows_of-like _ _ (λ n low. null_at c.vector_in-found.result.now (vector_at s c.args.id.batch c.args.id.vector) c.args.column c.vector_in-found.ensures n low)
    ∙ ap (λ (v : ViewForm). rows_of (λ n. is_null (whole (cell_at (vector_at v.state c.args.id.batch c.args.id.vector) c.args.column n)))) c.self.view_is
