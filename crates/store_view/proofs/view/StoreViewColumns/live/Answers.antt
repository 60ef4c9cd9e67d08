-- The rows that the batch covers and whose names aren't deleted.
use Rattle.std.proofs.Common.{◌≡◌, ◌<◌, length, sym, ap, ◌∙◌, subst, arith}
use Rattle.store_view.specs.View.{ViewForm}
use Rattle.store_view.proofs.view.StoreViewColumns.live.Goals as goal
use Rattle.std.specs.FinMap as finite
use Rattle.std.specs.FinSet as set
use Rattle.table_model.specs.Name.{row_name_cmp}
use Rattle.transpose_order.specs.Mask.{rows_of}
use Rattle.transpose_order.specs.MaskWords.{rows_of-like}
use Rattle.catalogue_join.specs.LiveMask as catalogue
use Rattle.query_eval.specs.Vector.{vector_count, vector_at, is_live}
use Rattle.store_view.proofs.CellLemmas.{batch_found, covered_rows}
use Rattle.store_view.proofs.StateLemmas.{live, vector_begins}

pub batch-requires : goal.batch-requires
batch-requires c =
    let h : c.args.id.batch < length (finite.entries c.self.inside.store.now.replica.state.batches) = subst (λ (v : ViewForm). c.args.id.batch < length (finite.entries v.state.batches)) (sym c.self.view_is) c.requires.batches in
    let e = finite.len-entries c.self.inside.store.now.replica.state.batches in omega arith

pub overflow_mul-id : goal.overflow_mul-id
overflow_mul-id c =
    let h = vector_begins c.self.inside.store.now.replica.state c.args.id.batch c.args.id.vector c.batch.result.0 c.batch.result.1.now.rows c.batch.ensures.value (subst (λ (v : ViewForm). c.args.id.vector < vector_count v.state c.args.id.batch) (sym c.self.view_is) c.requires.vectors) in
    let l = c.batch.ensures.fits.limit in let a = h.0 in omega arith

pub overflow_sub-rows : goal.overflow_sub-rows
overflow_sub-rows c =
    let h = vector_begins c.self.inside.store.now.replica.state c.args.id.batch c.args.id.vector c.batch.result.0 c.batch.result.1.now.rows c.batch.ensures.value (subst (λ (v : ViewForm). c.args.id.vector < vector_count v.state c.args.id.batch) (sym c.self.view_is) c.requires.vectors) in
    let e = c.rows.ensures.count in let a = h.0 in omega arith

pub live_mask-requires-clause-vector : goal.live_mask-requires-clause-vector
live_mask-requires-clause-vector c =
    let h = vector_begins c.self.inside.store.now.replica.state c.args.id.batch c.args.id.vector c.batch.result.0 c.batch.result.1.now.rows c.batch.ensures.value (subst (λ (v : ViewForm). c.args.id.vector < vector_count v.state c.args.id.batch) (sym c.self.view_is) c.requires.vectors) in
    let l = c.batch.ensures.fits.limit in let a = h.0 in omega arith

pub returns : goal.returns
returns c =
    let s = c.self.inside.store.now.replica.state in
    let covered : length (vector_at s c.args.id.batch c.args.id.vector).rows ≡ c.min-covered.result =
    covered_rows s c.args.id.batch c.args.id.vector (c.batch.result.0, c.batch.result.1.now.rows) c.batch.ensures.value
    ∙ (let e = c.min-covered.ensures in let r = c.rows.ensures.count in omega arith) in
    c.live_mask.ensures
    ∙ ap (λ (d : set.FinSet row_name_cmp). rows_of (catalogue.is_live d c.batch.result.0 c.args.id.vector c.min-covered.result)) c.tombs.ensures
    ∙ rows_of-like _ _ (λ n low. live s c.args.id.batch c.args.id.vector c.batch.result.0 c.batch.result.1.now.rows c.min-covered.result n (batch_found s c.args.id.batch _ c.batch.ensures.value) covered)
    ∙ ap (λ (v : ViewForm). rows_of (is_live (vector_at v.state c.args.id.batch c.args.id.vector))) c.self.view_is
