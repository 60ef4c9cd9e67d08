-- A store's state is one that a query may be asked of: each batch is one of the table's, and there are no more rows than a state may have.
use Rattle.std.proofs.Common.{◌≡◌, ℕ, zero, suc, ◌*◌, ◌<◌, ◌≤◌, ◌&&◌, not, nat_lt, List, [], ◌∷◌, length, flat_map, get_or, slice_get, Some, sym, ◌∙◌, ap, arith}
use Rattle.std.proofs.lemmas.List.{length-append}
use Rattle.std.specs.FinMap as finite
use Rattle.std.specs.FinSet as set
use Rattle.table_model.specs.State.{Batch, State, named_from}
use Rattle.table_model.specs.Table.{Table, IsBatch, row_limit}
use Rattle.table_model.specs.declared.names.BatchName.{BatchName}
use Rattle.catalogue_join.specs.LiveMask as catalogue
use Rattle.replica_store.specs.Replica.{AllFit, IsWithinLimits}
use Rattle.query_eval.specs.Vector.{IsWithin, batch_at, vector_count, vector_at, is_live}
use Rattle.query_eval.proofs.TableLemmas.{length-named_from}
use Rattle.store_view.proofs.CellLemmas.{batch_found}

abbrev Entry : Type 0
Entry = BatchName × Batch

entry_fits : (table : Table) (es : List Entry) (i : ℕ) (d : Entry) → AllFit table es → i < length es → IsBatch table (get_or es i d).1
entry_fits table [] i d fit h = absurd (omega arith)
entry_fits table (e ∷ es) zero d fit h = fit.0.fits
entry_fits table (e ∷ es) (suc i) d fit h = entry_fits table es i d fit.1 (omega arith)

few_rows : (table : Table) (es : List Entry) → AllFit table es → length (flat_map (λ (e : Entry). named_from e.0 0 e.1) es) ≤ row_limit * length es
few_rows table [] fit = omega arith
few_rows table (e ∷ es) fit =
    let first : length (named_from e.0 0 e.1) ≡ length e.1 = length-named_from e.0 0 e.1 in
    let limit : length e.1 ≤ row_limit = fit.0.fits.limit in
    let rest : length (flat_map (λ (e : Entry). named_from e.0 0 e.1) es) ≤ row_limit * length es = few_rows table es fit.1 in
    let both = length-append (named_from e.0 0 e.1) (flat_map (λ (e : Entry). named_from e.0 0 e.1) es) in
    omega arith

pub within : (table : Table) (s : State) → IsWithinLimits table s.batches → IsWithin table s
unfolding batch_at
within table s h = record {
  batches = λ i below. entry_fits table (finite.entries s.batches) i _ h.fits below;
  rows = let few = few_rows table (finite.entries s.batches) h.fits in let limit = h.limit in let count = finite.len-entries s.batches in omega arith;
}

-- the live rows of a vector are those that it covers whose names aren't deleted
pub live : (s : State) (batch k : ℕ) (name : BatchName) (rows : Batch) (covered n : ℕ) → batch_at s batch ≡ (name, rows) → length (vector_at s batch k).rows ≡ covered →
    catalogue.is_live s.deleted name k covered n ≡ is_live (vector_at s batch k) n
unfolding vector_at
live s batch k name rows covered n found count =
    ap (λ m. nat_lt n m && not (set.contains s.deleted (catalogue.row_of_vector name k n))) (sym count)
    ∙ ap (λ (e : Entry). nat_lt n (length (vector_at s batch k).rows) && not (set.contains s.deleted (catalogue.row_of_vector e.0 k n))) (sym found)

-- a vector that there is begins before the end of its batch
pub vector_begins : (s : State) (i k : ℕ) (name : BatchName) (rows : Batch) → slice_get (finite.entries s.batches) i ≡ Some (name, rows) → k < vector_count s i → (1024 * k < length rows) × (k < vector_count s i)
vector_begins s i k name rows found h =
    let same : length (batch_at s i).1 ≡ length rows = ap (λ (e : Entry). length e.1) (batch_found s i (name, rows) found) in
    (omega arith, h)
