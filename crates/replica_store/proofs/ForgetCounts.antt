-- How many batches and rows a forget drops is how many there were before but aren't after; if it drops none nothing changes.
use Rattle.std.specs.Prelude.{◌≡◌, ℕ, zero, suc, slice_get, ◌+◌, ◌-◌, ◌≤◌, Some, Bool, true, false, cond, not, List, [], ◌∷◌, filter, length}
use Rattle.std.proofs.Common.{refl, ap, ◌∙◌, arith, drop}
use Rattle.std.proofs.lemmas.List.{drop_all}
use Rattle.std.specs.FinMap as map
use Rattle.table_model.specs.State.{State, Batch}
use Rattle.table_model.specs.declared.names.BatchName.{BatchName}
use Rattle.table_model.specs.Name.{name_cmp}
use Rattle.table_model.proofs.Joins.{same_states}
use Rattle.replica_store.specs.Forgotten.{has_live_row, forgotten}
use Rattle.replica_store.proofs.Rests.{Sorted-filter, deleted-forgotten}
use Rattle.replica_store.specs.Forgets.{batches_of, dead_batches, row_count}

abbrev Entry : Type 0
Entry = BatchName × Batch

-- ---- what a test keeps, and what it doesn't

abbrev pub rows_in : List Entry → ℕ
rows_in es = row_count (batches_of es)

module _ (p : Entry → Bool) where
  abbrev others : List Entry → List Entry
  others es = filter (λ (e : Entry). not (p e)) es

  count_parts : (es : List Entry) → length es ≡ length (filter p es) + length (others es)
  count_parts [] = refl
  count_parts (e ∷ es) =
      let rest = count_parts es in
      elim (p e) as (λ b. suc (length es) ≡ length (cond b (e ∷ filter p es) (filter p es)) + length (cond (not b) (e ∷ others es) (others es))) [
        | true ↦ omega (arith, rest)
        | false ↦ omega (arith, rest)
      ]

  row_parts : (es : List Entry) → rows_in es ≡ rows_in (filter p es) + rows_in (others es)
  row_parts [] = refl
  row_parts (e ∷ es) =
      let rest = row_parts es in
      elim (p e) as (λ b. length e.1 + rows_in es ≡ rows_in (cond b (e ∷ filter p es) (filter p es)) + rows_in (cond (not b) (e ∷ others es) (others es))) [
        | true ↦ omega (arith, rest)
        | false ↦ omega (arith, rest)
      ]

  -- where nothing else is left all is kept
  kept_whole : (es : List Entry) → length (others es) ≡ 0 → filter p es ≡ es
  kept_whole [] none = refl
  kept_whole (e ∷ es) none =
      elim (p e) as (λ b. length (cond (not b) (e ∷ others es) (others es)) ≡ 0 → cond b (e ∷ filter p es) (filter p es) ≡ e ∷ es) [
        | true ↦ λ is. ap (λ (rest : List Entry). e ∷ rest) (kept_whole es is)
        | false ↦ λ is. cc
      ] none

-- ---- a state before and after

module _ (s : State) where
  abbrev live : Entry → Bool
  live = has_live_row s.deleted

  entries-forgotten : map.entries (forgotten s).batches ≡ filter live (map.entries s.batches)
  unfolding forgotten
  entries-forgotten = map.entries-from_sorted name_cmp (filter live (map.entries s.batches)) (Sorted-filter live (map.entries s.batches) (map.entries_sorted s.batches))

  pub dropped_batches : length (dead_batches s) ≡ map.len s.batches - map.len (forgotten s).batches
  dropped_batches = omega (arith, count_parts live (map.entries s.batches), map.len-entries s.batches, map.len-entries (forgotten s).batches, ap length entries-forgotten)

  pub dropped_rows : rows_in (dead_batches s) ≡ rows_in (map.entries s.batches) - rows_in (map.entries (forgotten s).batches)
  dropped_rows = omega (arith, row_parts live (map.entries s.batches), ap rows_in entries-forgotten)

  pub none_dropped : length (dead_batches s) ≡ 0 → forgotten s ≡ s
  none_dropped none =
      same_states (forgotten s) s
      (map.same_entries_map (forgotten s).batches s.batches (entries-forgotten ∙ kept_whole live (map.entries s.batches) none))
      (deleted-forgotten s)

-- ---- counting the rows of a store

-- the rows from a batch on are its own and those after it
pub rows_next : (es : List Entry) (i : ℕ) (name : BatchName) (rows : Batch) → slice_get es i ≡ Some (name, rows) → rows_in (drop i es) ≡ length rows + rows_in (drop (i + 1) es)
rows_next [] i name rows is = cc
rows_next (e ∷ es) zero name rows is =
    let same : e ≡ (name, rows) = cc in ap (λ (x : Entry). length x.1 + rows_in es) same
rows_next (e ∷ es) (suc i) name rows is =
    let one : suc (i + 1) ≡ suc i + 1 = omega arith in
    rows_next es i name rows is ∙ ap (λ (n : ℕ). length rows + rows_in (drop n (e ∷ es))) one

-- and none are left at the end
pub rows_end : (es : List Entry) (i rows : ℕ) → length es ≤ i → rows + rows_in (drop i es) ≡ rows_in es → rows ≡ rows_in es
rows_end es i rows end counted = omega (arith, counted, ap rows_in (drop_all i es end))
