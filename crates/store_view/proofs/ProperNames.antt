-- The rows of a state within the limits have proper names.
use Rattle.std.proofs.Common.{◌≡◌, IsTrue, ℕ, suc, Bool, true, false, not, cond, List, [], ◌∷◌, filter, flat_map, Some, refl, ◌∙◌}
use Rattle.std.specs.FinMap as finite
use Rattle.std.specs.FinSet as set
use Rattle.std.specs.List.{list_all, All}
use Rattle.std.proofs.lemmas.Bool.{and_parts, and_from}
use Rattle.std.proofs.lemmas.List.Folds.{list_all-append, list_all-map}
use Rattle.std.proofs.lemmas.List.Sums.{AllPass-from_list_all}
use Rattle.table_model.specs.Formula.{Formula}
use Rattle.table_model.specs.Meaning.{names_where, is_kept, at_row}
use Rattle.table_model.specs.Name.{is_proper_name}
use Rattle.table_model.specs.State.{Cells, Batch, State, named_from, live_rows}
use Rattle.table_model.specs.Table.{Table}
use Rattle.table_model.specs.declared.names.BatchName.{BatchName}
use Rattle.table_model.specs.declared.names.RowName.{RowName}
use Rattle.replica_store.specs.Replica.{AllFit, IsWithinLimits}

abbrev Named : Type 0
Named = RowName × Cells

abbrev is_proper : Named → Bool
is_proper row = is_proper_name row.0.batch

proper_from : (name : BatchName) (n : ℕ) (rows : Batch) → is_proper_name name ≡ true → list_all is_proper (named_from name n rows) ≡ true
proper_from name n [] h = refl
proper_from name n (row ∷ rows) h = and_from (is_proper_name name) (list_all is_proper (named_from name (suc n) rows)) h (proper_from name (suc n) rows h)

proper_in : (table : Table) (es : List (BatchName × Batch)) → AllFit table es → list_all is_proper (flat_map (λ (e : BatchName × Batch). named_from e.0 0 e.1) es) ≡ true
proper_in table [] fit = refl
proper_in table (e ∷ es) fit =
    let first = named_from e.0 0 e.1 in
    let rest = flat_map (λ (e : BatchName × Batch). named_from e.0 0 e.1) es in
    list_all-append is_proper first rest ∙ and_from (list_all is_proper first) (list_all is_proper rest) (proper_from e.0 0 e.1 fit.0.proper) (proper_in table es fit.1)

kept : (test : Named → Bool) (rows : List Named) → list_all is_proper rows ≡ true → list_all is_proper (filter test rows) ≡ true
kept test [] h = refl
kept test (row ∷ rows) h = one (test row) (kept test rows parts.1)
  where
    parts : (is_proper row ≡ true) × (list_all is_proper rows ≡ true)
    parts = and_parts (is_proper row) (list_all is_proper rows) h

    one : (b : Bool) → list_all is_proper (filter test rows) ≡ true → list_all is_proper (cond b (row ∷ filter test rows) (filter test rows)) ≡ true
    one true rest = and_from (is_proper row) (list_all is_proper (filter test rows)) parts.0 rest
    one false rest = rest

-- the rows at which a condition is true have proper names
pub names_proper : (table : Table) (f : Formula) (s : State) → IsWithinLimits table s.batches → All (λ (row : RowName). IsTrue (is_proper_name row.batch)) (names_where table f s)
unfolding names_where live_rows
names_proper table f s h =
    let all : List Named = flat_map (λ (e : BatchName × Batch). named_from e.0 0 e.1) (finite.entries s.batches) in
    let alive : Named → Bool = λ row. not (set.contains s.deleted row.0) in
    let test : Named → Bool = λ row. is_kept (Some f) (at_row table.columns row.1) in
    AllPass-from_list_all (λ (row : RowName). is_proper_name row.batch) (names_where table f s)
    (list_all-map (λ (row : RowName). is_proper_name row.batch) (λ (row : Named). row.0) (filter test (filter alive all)) ∙ kept test (filter alive all) (kept alive all (proper_in table (finite.entries s.batches) h.fits)))
