-- As many vectors as the batch's rows take.
use Rattle.std.proofs.Common.{◌≡◌, ◌+◌, ◌/◌, ◌<◌, length, sym, ap, ◌∙◌, subst, arith}
use Rattle.store_view.specs.View.{ViewForm}
use Rattle.store_view.proofs.view.StoreViewColumns.vectors.Goals as goal
use Rattle.std.specs.FinMap as finite
use Rattle.query_eval.specs.Vector.{batch_at, vector_count}
use Rattle.store_view.proofs.CellLemmas.{batch_found}
use Rattle.table_model.specs.State.{Batch}
use Rattle.table_model.specs.declared.names.BatchName.{BatchName}

pub batch-requires : goal.batch-requires
batch-requires c =
    let h : c.args.batch < length (finite.entries c.self.inside.store.now.replica.state.batches) = subst (λ (v : ViewForm). c.args.batch < length (finite.entries v.state.batches)) (sym c.self.view_is) c.requires in
    let e = finite.len-entries c.self.inside.store.now.replica.state.batches in omega arith

pub returns : goal.returns
returns c =
    let rows : c.rows.result ≡ length (batch_at c.self.inside.store.now.replica.state c.args.batch).1 =
    c.rows.ensures.count ∙ sym (ap (λ (e : BatchName × Batch). length e.1) (batch_found c.self.inside.store.now.replica.state c.args.batch _ c.batch.ensures.value)) in
    let count : c.div_ceil.result ≡ (c.rows.result + 1023) / 1024 = let e = c.div_ceil.ensures in omega arith in
    count ∙ ap (λ n. (n + 1023) / 1024) rows ∙ ap (λ (v : ViewForm). vector_count v.state c.args.batch) c.self.view_is
