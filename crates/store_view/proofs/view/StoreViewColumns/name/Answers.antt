-- The name of the batch at the place.
use Rattle.std.proofs.Common.{◌<◌, length, sym, ap, ◌∙◌, subst, arith}
use Rattle.store_view.specs.View.{ViewForm}
use Rattle.store_view.proofs.view.StoreViewColumns.name.Goals as goal
use Rattle.std.specs.FinMap as finite
use Rattle.query_eval.specs.Vector.{batch_at}
use Rattle.store_view.proofs.CellLemmas.{batch_found}
use Rattle.table_model.specs.State.{Batch}
use Rattle.table_model.specs.declared.names.BatchName.{BatchName}

pub batch-requires : goal.batch-requires
batch-requires c =
    let h : c.args.batch < length (finite.entries c.self.inside.store.now.replica.state.batches) = subst (λ (v : ViewForm). c.args.batch < length (finite.entries v.state.batches)) (sym c.self.view_is) c.requires in
    let e = finite.len-entries c.self.inside.store.now.replica.state.batches in omega arith

pub returns : goal.returns
returns c =
    sym (ap (λ (e : BatchName × Batch). e.0) (batch_found c.self.inside.store.now.replica.state c.args.batch _ c.batch.ensures.value))
    ∙ ap (λ (v : ViewForm). (batch_at v.state c.args.batch).0) c.self.view_is
