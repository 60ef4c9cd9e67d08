-- The segment's vector at the place has the column's cells.
use Rattle.std.proofs.Common.{◌≡◌, ◌<◌, length, refl, ap, subst, arith}
use Rattle.std.specs.FinMap as finite
use Rattle.table_model.specs.State.{Batch}
use Rattle.table_model.specs.declared.names.BatchName.{BatchName}
use Rattle.segment_core.specs.Segment.{IsSegment, batch_of, vector_count}
use Rattle.replica_store.proofs.VectorPlaces.{columns_are}
use Rattle.store_view.proofs.CellLemmas.{has_cells, batch_found}
use Rattle.store_view.proofs.view.vector_in.Goals as goal

pub batch-requires : goal.batch-requires
batch-requires c = let e = finite.len-entries c.args.store.now.replica.state.batches in let h = c.requires.there.batches in omega arith

pub vector-found-requires-clause-column : goal.vector-found-requires-clause-column
vector-found-requires-clause-column c = let e = columns_are c.args.store.now.replica.schema (length c.batch.result.1.now.rows) c.batch.result.1.now refl c.keeps_its_vectors.ensures.rows c.batch.ensures.fits in let h = c.requires.column in omega arith

pub vector-found-requires-clause-vector : goal.vector-found-requires-clause-vector
vector-found-requires-clause-vector c = subst (λ (rows : Batch). c.args.id.vector < vector_count (length rows)) (ap (λ (e : BatchName × Batch). e.1) (batch_found c.args.store.now.replica.state c.args.id.batch _ c.batch.ensures.value)) c.requires.there.vectors

pub returns : goal.returns
returns c =
    let s = c.batch.result.1.now in
    let shown : s.rows ≡ batch_of (length s.rows) s.forms = c.keeps_its_vectors.ensures.rows in
    let proper : IsSegment (length s.rows) s.forms = c.keeps_its_vectors.ensures.form in
    has_cells c.args.store.now.replica.state c.args.id.batch c.args.id.vector c.args.column c.batch.result.0 s c.vector-found.result.now
    c.batch.ensures.value shown proper (let e = columns_are c.args.store.now.replica.schema (length c.batch.result.1.now.rows) c.batch.result.1.now refl c.keeps_its_vectors.ensures.rows c.batch.ensures.fits in let h = c.requires.column in omega arith) c.vector-found.ensures c.keeps_its_rule.ensures
