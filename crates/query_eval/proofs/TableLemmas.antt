-- The set functions of all rows that are kept.
use Rattle.std.proofs.Common.{◌≡◌, ℕ, suc, ◌<◌, Bool, true, false, not, cond, List, [], ◌∷◌, ◌++◌, map, filter, length, get_or, Option, refl, sym, ap, subst, arith, ◌∙◌}
use Rattle.std.specs.FinMap as finite
use Rattle.std.specs.FinSet as set
use Rattle.std.specs.List.{flat_map}
use Rattle.std.proofs.lemmas.List.{get_or_default, map-append, length-map}
use Rattle.std.proofs.lemmas.List.Sums.{length-filter, count_by-le-length}
use Rattle.table_model.specs.Formula.{Formula}
use Rattle.table_model.specs.Group.{groups_of}
use Rattle.table_model.specs.State.{Cells, Batch, State, named_from, named_rows, live_rows}
use Rattle.table_model.specs.Table.{Table, ColumnShape, AreRows}
use Rattle.table_model.specs.declared.names.BatchName.{BatchName}
use Rattle.table_model.specs.declared.names.RowName.{RowName}
use Rattle.query_eval.specs.Aggregate.{aggregate_value}
use Rattle.query_eval.specs.Finished.{GroupFields, finished_groups}
use Rattle.query_eval.specs.Kept.{AreFew, rows_alive, rows_kept}
use Rattle.query_eval.specs.Vector.{IsWithin, batch_at}
use Rattle.query_eval.specs.declared.tallies.aggregate.Aggregate.{Aggregate}
use Rattle.query_eval.proofs.Lifted.{keeps}

-- ---- the one group
pub whole-group : (aggregates : List Aggregate) (rows : List Cells) (group : GroupFields) → group.key ≡ [] → group.fields ≡ map (λ a. aggregate_value a rows) aggregates → group ∷ [] ≡ finished_groups aggregates [] rows
unfolding finished_groups groups_of
whole-group aggregates rows group k f = λ i. record { key = k i; fields = f i } ∷ []

-- ---- the rows of a state are rows of its table, and few
-- rows that pass a test fit where all do
pub kept_rows_fit : (columns : List ColumnShape) (p : Cells → Bool) (xs : List Cells) → AreRows columns xs → AreRows columns (filter p xs)
kept_rows_fit columns p [] h = tt
kept_rows_fit columns p (x ∷ xs) h = one (p x) (kept_rows_fit columns p xs h.1)
  where
    one : (b : Bool) → AreRows columns (filter p xs) → AreRows columns (cond b (x ∷ filter p xs) (filter p xs))
    one true r = (h.0, r)
    one false r = r

live_rows_fit : (columns : List ColumnShape) (p : RowName × Cells → Bool) (xs : List (RowName × Cells)) → AreRows columns (map (λ (row : RowName × Cells). row.1) xs) → AreRows columns (map (λ (row : RowName × Cells). row.1) (filter p xs))
live_rows_fit columns p [] h = tt
live_rows_fit columns p (x ∷ xs) h = one (p x) (live_rows_fit columns p xs h.1)
  where
    one : (b : Bool) → AreRows columns (map (λ (row : RowName × Cells). row.1) (filter p xs)) → AreRows columns (map (λ (row : RowName × Cells). row.1) (cond b (x ∷ filter p xs) (filter p xs)))
    one true r = (h.0, r)
    one false r = r

joined_fit : (columns : List ColumnShape) (xs ys : List Cells) → AreRows columns xs → AreRows columns ys → AreRows columns (xs ++ ys)
joined_fit columns [] ys h k = k
joined_fit columns (x ∷ xs) ys h k = (h.0, joined_fit columns xs ys h.1 k)

named_cells : (name : BatchName) (n : ℕ) (rows : Batch) → map (λ (row : RowName × Cells). row.1) (named_from name n rows) ≡ rows
named_cells name n [] = refl
named_cells name n (row ∷ rows) = ap (λ l. row ∷ l) (named_cells name (suc n) rows)

-- naming rows leaves their number
pub length-named_from : (name : BatchName) (n : ℕ) (rows : Batch) → length (named_from name n rows) ≡ length rows
length-named_from name n rows = sym (length-map {B = Cells} (named_from name n rows) (λ (row : RowName × Cells). row.1)) ∙ ap length (named_cells name n rows)

batches_fit : (columns : List ColumnShape) (es : List (BatchName × Batch)) → ((i : ℕ) (d : BatchName × Batch) → i < length es → AreRows columns (get_or es i d).1) → AreRows columns (map (λ (row : RowName × Cells). row.1) (flat_map (λ (e : BatchName × Batch). named_from e.0 0 e.1) es))
batches_fit columns [] h = tt
batches_fit columns (e ∷ es) h =
    subst (AreRows columns) (sym (map-append (λ (row : RowName × Cells). row.1) (named_from e.0 0 e.1) (flat_map (λ (x : BatchName × Batch). named_from x.0 0 x.1) es)))
    (joined_fit columns _ _ (subst (AreRows columns) (sym (named_cells e.0 0 e.1)) (h 0 e (omega arith))) (batches_fit columns es (λ i d l. h (suc i) d (omega arith))))

pub kept-few : (table : Table) (condition : Option Formula) (s : State) → IsWithin table s → AreFew table (rows_kept table condition (rows_alive s))
unfolding live_rows batch_at
kept-few table condition s h =
    let cells : RowName × Cells → Cells = λ row. row.1 in
    let is_there : RowName × Cells → Bool = λ row. not_deleted s row in
    record {
      fit = kept_rows_fit table.columns (keeps table condition) _ (live_rows_fit table.columns _ (named_rows s) (batches_fit table.columns (finite.entries s.batches) (λ i d l. subst (λ (e : BatchName × Batch). AreRows table.columns e.1) (get_or_default (finite.entries s.batches) i _ d l) (h.batches i l).rows_fit)));
      few = omega (arith, h.rows, length-filter (keeps table condition) (rows_alive s), count_by-le-length (keeps table condition) (rows_alive s), length-map {B = Cells} (live_rows s) cells, length-filter (not_deleted s) (named_rows s), count_by-le-length (not_deleted s) (named_rows s));
    }
  where
    not_deleted : State → RowName × Cells → Bool
    not_deleted s row = not (set.contains s.deleted row.0)
