-- The live rows of a replica fit its table, and the cells of named rows are those of the batches that they are of.
use Rattle.std.specs.Prelude.{◌≡◌, ℕ, suc, Bool, true, false, cond, not, filter, List, [], ◌∷◌, ◌++◌}
use Rattle.std.proofs.Common.{refl, sym, ap, subst, ◌∙◌}
use Rattle.std.specs.FinMap as map
use Rattle.std.specs.FinSet as set
use Rattle.std.specs.List.{flat_map}
use Rattle.table_model.specs.State.{Batch, Cells, named_from, named_rows, live_rows}
use Rattle.table_model.specs.Table.{Table, ColumnShape, AreRows}
use Rattle.table_model.specs.declared.names.BatchName.{BatchName}
use Rattle.table_model.specs.declared.names.RowName.{RowName}
use Rattle.replica_store.specs.Replica.{Replica, AllFit}
use Rattle.csv_rows.proofs.RowFacts.{fits_append}
use Rattle.replica_reports.specs.Dumps.{cells_of}

-- ---- the cells of named rows

cells_named : (name : BatchName) (n : ℕ) (rows : Batch) → cells_of (named_from name n rows) ≡ rows
cells_named name n [] = refl
cells_named name n (row ∷ rows) = ap (λ (rest : Batch). row ∷ rest) (cells_named name (suc n) rows)

cells-append : (xs ys : List (RowName × Cells)) → cells_of (xs ++ ys) ≡ cells_of xs ++ cells_of ys
cells-append [] ys = refl
cells-append (x ∷ xs) ys = ap (λ (rest : Batch). x.1 ∷ rest) (cells-append xs ys)

-- the named rows of batches
abbrev pub rows_in : List (BatchName × Batch) → List (RowName × Cells)
rows_in es = flat_map (λ (e : BatchName × Batch). named_from e.0 0 e.1) es

pub cells_first : (e : BatchName × Batch) (es : List (BatchName × Batch)) → cells_of (rows_in (e ∷ es)) ≡ e.1 ++ cells_of (rows_in es)
cells_first e es = cells-append (named_from e.0 0 e.1) (rows_in es) ∙ ap (λ (xs : Batch). xs ++ cells_of (rows_in es)) (cells_named e.0 0 e.1)

-- ---- they fit the table

entries_fit : (table : Table) (es : List (BatchName × Batch)) → AllFit table es → AreRows table.columns (cells_of (rows_in es))
entries_fit table [] h = tt
entries_fit table (e ∷ es) h = subst (AreRows table.columns) (sym (cells_first e es)) (fits_append table.columns e.1 (cells_of (rows_in es)) h.0.fits.rows_fit (entries_fit table es h.1))

kept_fit : (columns : List ColumnShape) (keeps : RowName × Cells → Bool) (xs : List (RowName × Cells)) → AreRows columns (cells_of xs) → AreRows columns (cells_of (filter keeps xs))
kept_fit columns keeps [] h = tt
kept_fit columns keeps (x ∷ xs) h = elim (keeps x) as (λ b. AreRows columns (cells_of (cond b (x ∷ filter keeps xs) (filter keeps xs)))) [
  | true ↦ (h.0, kept_fit columns keeps xs h.1)
  | false ↦ kept_fit columns keeps xs h.1
]

pub live_fit : (r : Replica) → AllFit r.schema (map.entries r.state.batches) → AreRows r.schema.columns (cells_of (live_rows r.state))
unfolding live_rows
live_fit r h = kept_fit r.schema.columns (λ (row : RowName × Cells). not (set.contains r.state.deleted row.0)) (named_rows r.state) (entries_fit r.schema (map.entries r.state.batches) h)
