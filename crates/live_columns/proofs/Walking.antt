-- The rows that are kept of a batch's vectors in turn are those at which the condition is true.
use Rattle.std.proofs.Common.{◌≡◌, ℕ, suc, ◌+◌, ◌*◌, ◌<◌, ◌≤◌, Bool, true, false, not, cond, ◌&&◌, List, [], ◌∷◌, ◌++◌, map, filter, Option, Some, None, length, sum_by, count_by, refl, sym, ap, subst, ◌∙◌, arith, append_assoc, append-nil}
use Rattle.std.specs.FinSet as set
use Rattle.std.specs.Global.{Vec}
use Rattle.std.proofs.lemmas.List.{take_all}
use Rattle.std.proofs.lemmas.List.Elements.{filter-append}
use Rattle.table_model.specs.Formula.{Formula}
use Rattle.table_model.specs.State.{Cells, Batch, State, named_from, live_rows}
use Rattle.table_model.specs.Table.{Table}
use Rattle.table_model.specs.declared.names.BatchName.{BatchName}
use Rattle.table_model.specs.declared.names.RowName.{RowName}
use Rattle.transpose_order.specs.Mask.{has}
use Rattle.transpose_order.specs.MaskWords.{length-rows_of}
use Rattle.query_eval.specs.Kept.{batch_rows, kept_mask}
use Rattle.query_eval.specs.Vector.{IsWithin, batch_at, batch_count, vector_at, vector_count, vector_of}
use Rattle.query_eval.specs.declared.filter.kept_rows.KeptVector.{KeptVector}
use Rattle.query_eval.specs.declared.columns.VectorId.{VectorId}
use Rattle.query_eval.proofs.Lifted.{chosen, dead_in, keeps, front_items, front_items-more, first_rows, first_rows-more, first_rows-all}
use Rattle.live_columns.specs.Chosen.{AreThere, IsChosen, kept_in, named_at, picked, rows_in, rows_where}
use Rattle.live_columns.specs.Walk.{kept_of, rows_of_batch}
use Rattle.live_columns.proofs.RowLemmas.{rows-counted, rows-push}
use Rattle.live_columns.proofs.Picked.{picked-none}

-- ---- one vector
pub vector-pushed : (table : Table) (condition : Option Formula) (s : State) (vectors : List KeptVector) (id : VectorId) (mask : List Bool) → mask ≡ kept_mask table condition (vector_of s id) →
    rows_in s (vectors ++ record { id = id; rows = mask } ∷ []) ≡ rows_in s vectors ++ kept_of table condition s id
unfolding kept_in
vector-pushed table condition s vectors id mask is =
    rows-push s vectors (record { id = id; rows = mask }) ∙ ap (λ m. rows_in s vectors ++ picked m (named_at s id)) is

pub vector-empty : (table : Table) (condition : Option Formula) (s : State) (vectors : List KeptVector) (id : VectorId) (mask : List Bool) → mask ≡ kept_mask table condition (vector_of s id) → ((n : ℕ) → n < 1024 → has mask n ≡ false) →
    rows_in s vectors ≡ rows_in s vectors ++ kept_of table condition s id
vector-empty table condition s vectors id mask is none =
    sym (ap (λ m. rows_in s vectors ++ picked m (named_at s id)) (sym is) ∙ ap (λ l. rows_in s vectors ++ l) (picked-none mask (named_at s id) none) ∙ append-nil (rows_in s vectors))

-- ---- one batch
-- a row of a batch with its name
abbrev pub named_row : State → ℕ → ℕ → Cells → RowName × Cells
named_row s batch n row = (record { batch = (batch_at s batch).0; ordinal = n }, row)

-- the rows of a batch's first vectors
abbrev pub front_rows : Table → Option Formula → State → ℕ → ℕ → List (RowName × Cells)
front_rows table condition s batch vectors = front_items (named_row s batch) table condition s batch vectors

pub front_rows-more : (table : Table) (condition : Option Formula) (s : State) (batch vector : ℕ) → vector < vector_count s batch →
    front_rows table condition s batch (vector + 1) ≡ front_rows table condition s batch vector ++ kept_of table condition s (record { batch = batch; vector = vector })
front_rows-more table condition s batch vector h = front_items-more (named_row s batch) table condition s batch vector h

kept_named : (table : Table) (condition : Option Formula) (s : State) (name : BatchName) (n : ℕ) (rows : Batch) →
    filter (λ (row : RowName × Cells). keeps table condition row.1) (filter (λ (row : RowName × Cells). not (set.contains s.deleted row.0)) (named_from name n rows)) ≡ chosen (λ m. set.contains s.deleted (record { batch = name; ordinal = m })) (keeps table condition) (λ m row. (record { batch = name; ordinal = m }, row)) n rows
kept_named table condition s name n [] = refl
kept_named table condition s name n (row ∷ rows) = one (not (set.contains s.deleted here)) _ (kept_named table condition s name (suc n) rows)
  where
    here : RowName
    here = record { batch = name; ordinal = n }

    named : RowName × Cells
    named = (here, row)

    later : List (RowName × Cells)
    later = chosen (λ m. set.contains s.deleted (record { batch = name; ordinal = m })) (keeps table condition) (λ m row. (record { batch = name; ordinal = m }, row)) (suc n) rows

    one : (b : Bool) (l : List (RowName × Cells)) → filter (λ (r : RowName × Cells). keeps table condition r.1) l ≡ later →
        filter (λ (r : RowName × Cells). keeps table condition r.1) (cond b (named ∷ l) l) ≡ cond (b && keeps table condition row) (named ∷ later) later
    one true l e = ap (λ (m : List (RowName × Cells)). cond (keeps table condition row) (named ∷ m) m) e
    one false l e = e

pub front_rows-all : (table : Table) (condition : Option Formula) (s : State) (batch vectors : ℕ) → vector_count s batch ≤ vectors → front_rows table condition s batch vectors ≡ rows_of_batch table condition s batch
unfolding batch_rows
front_rows-all table condition s batch vectors h =
    ap (chosen (dead_in s batch) (keeps table condition) (named_row s batch) 0) (take_all (1024 * vectors) (batch_at s batch).1 (omega arith))
    ∙ sym (kept_named table condition s (batch_at s batch).0 0 (batch_at s batch).1)

-- ---- what a step of the walk leaves
-- the mask of a vector has its places
pub kept-places : (table : Table) (condition : Option Formula) (s : State) (id : VectorId) (mask : List Bool) → mask ≡ kept_mask table condition (vector_of s id) → length mask ≡ 1024
unfolding kept_mask
kept-places table condition s id mask is = ap length is ∙ length-rows_of _

-- one vector more of a batch
pub batch-step : (table t : Table) (condition : Option Formula) (s r : State) (batch vector : ℕ) (old now next : List KeptVector) → vector < vector_count s batch → t ≡ table → r ≡ s →
    rows_in s now ≡ rows_in s old ++ front_rows table condition s batch vector → rows_in r next ≡ rows_in r now ++ kept_of t condition r (record { batch = batch; vector = vector }) →
    rows_in s next ≡ rows_in s old ++ front_rows table condition s batch (vector + 1)
batch-step table t condition s r batch vector old now next within same_table same_state before here =
    let id : VectorId = record { batch = batch; vector = vector } in
    let step : rows_in s next ≡ rows_in s now ++ kept_of table condition s id =
    subst (λ (x : State). rows_in x next ≡ rows_in x now ++ kept_of table condition x id) same_state
    (subst (λ (y : Table). rows_in r next ≡ rows_in r now ++ kept_of y condition r id) same_table here) in
    step ∙ ap (λ l. l ++ kept_of table condition s id) before ∙ append_assoc (rows_in s old) (front_rows table condition s batch vector) (kept_of table condition s id)
    ∙ ap (λ l. rows_in s old ++ l) (sym (front_rows-more table condition s batch vector within))
