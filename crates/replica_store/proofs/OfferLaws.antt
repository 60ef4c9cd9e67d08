-- What a replica forgets is what it offers to a summary that lists the batches of which every row is deleted.
use Rattle.std.specs.Prelude.{◌≡◌, ℕ, suc, ◌+◌, ◌<◌, ◌≤◌, Bool, true, false, cond, not, ◌||◌, List, [], ◌∷◌, filter, length, map as each, Option, Some, None, is_some, IsTrue}
use Rattle.std.proofs.Common.{refl, sym, ap, subst, ◌∙◌, arith}
use Rattle.std.specs.List.{list_any}
use Rattle.std.specs.Ordering.{eq_by_cmp}
use Rattle.std.specs.FinMap as map
use Rattle.std.specs.FinMap.Entries.{is_some-find}
use Rattle.std.specs.FinSet as set
use Rattle.table_model.specs.Name.{name_cmp, row_name_cmp}
use Rattle.table_model.specs.State.{State, Batch, join, named_from}
use Rattle.table_model.specs.Table.{row_limit}
use Rattle.table_model.specs.declared.names.BatchName.{BatchName}
use Rattle.table_model.specs.declared.names.RowName.{RowName}
use Rattle.table_model.proofs.NameOrder.{names_total, row_names_total}
use Rattle.table_model.proofs.Joins.{or_else, get-union, same_states, same_maps}
use Rattle.replica_store.specs.Forgotten.{has_live_row, forgotten, IsRestOf}
use Rattle.replica_store.specs.ForgetHistory.{left_out, spent_names, IsSealed, ForgetOfferLaws}
use Rattle.replica_store.proofs.Rests.{Sorted-filter, find-filter, kept, get-forgotten, deleted-forgotten, alive, Rows}
use Rattle.replica_store.proofs.Histories.{get-left_out, deleted-left_out}

abbrev Entry : Type 0
Entry = BatchName × Batch

abbrev spent : Rows → Entry → Bool
spent d e = not (has_live_row d e)

contains-spent : (s : State) (q : BatchName) → set.contains (spent_names s) q ≡ is_some (kept (spent s.deleted) q (map.get s.batches q))
unfolding spent_names
contains-spent s q =
    let es : List Entry = map.entries s.batches in
    let p : Entry → Bool = spent s.deleted in
    set.contains-from_list names_total (each (λ (e : Entry). e.0) (filter p es)) q
    ∙ sym (is_some-find name_cmp q (filter p es))
    ∙ ap is_some (find-filter p q es (map.entries_sorted s.batches) ∙ ap (kept p q) (sym (map.get-entries s.batches q)))

left_is : (p : Entry → Bool) (q : BatchName) (o : Option Batch) → cond (not (is_some (kept (λ (e : Entry). not (p e)) q o))) o None ≡ kept p q o
left_is p q None = refl
left_is p q (Some rows) = elim (p (q, rows)) as (λ b. cond (not (is_some (cond (not b) (Some rows) None))) (Some rows) None ≡ cond b (Some rows) None) [ true ↦ refl | false ↦ refl ]

offer : (s : State) → left_out (spent_names s) s ≡ forgotten s
offer s = same_states _ _
    (same_maps _ _ (λ q.
    get-left_out (spent_names s) s q
    ∙ ap (λ (b : Bool). cond (not b) (map.get s.batches q) None) (contains-spent s q)
    ∙ left_is (has_live_row s.deleted) q (map.get s.batches q)
    ∙ sym (get-forgotten s q)))
    (deleted-left_out (spent_names s) s ∙ sym (deleted-forgotten s))

-- rows that are all deleted, counted from n on
dead_from : (d : Rows) (name : BatchName) (rows : Batch) (n : ℕ) → ((k : ℕ) → n ≤ k → k < n + length rows → IsTrue (set.contains d (record { batch = name; ordinal = k }))) → list_any (alive d) (named_from name n rows) ≡ false
dead_from d name [] n all = refl
dead_from d name (row ∷ rows) n all =
    ap (λ (b : Bool). not b || list_any (alive d) (named_from name (suc n) rows)) (all n (omega arith) (omega arith))
    ∙ dead_from d name rows (suc n) (λ k from below. all k (omega (arith, from)) (omega (arith, below)))

module _ (s t : State) (names : set.FinSet name_cmp) (listed : (name : BatchName) → IsTrue (set.contains names name) → IsSealed s.deleted name) (limit : (name : BatchName) (rows : Batch) → map.get t.batches name ≡ Some rows → length rows ≤ row_limit) where
  first_has : (name : BatchName) (n : ℕ) → IsTrue (set.contains s.deleted (record { batch = name; ordinal = n })) → IsTrue (set.contains (set.union s.deleted t.deleted) (record { batch = name; ordinal = n }))
  first_has name n has =
      let row : RowName = record { batch = name; ordinal = n } in
      set.contains-union row_names_total s.deleted t.deleted row ∙ ap (λ (b : Bool). b || set.contains t.deleted row) has

  sealed_held : (name : BatchName) (rows : Batch) (b : Bool) (o : Option Batch) → or_else o (cond (not b) (map.get t.batches name) None) ≡ Some rows → or_else o (map.get t.batches name) ≡ Some rows
  sealed_held name rows b (Some x) has = has
  sealed_held name rows false None has = has
  sealed_held name rows true None has = cc

  sealed_dropped : (name : BatchName) (rows : Batch) (b : Bool) (o : Option Batch) → set.contains names name ≡ b → or_else o (cond (not b) (map.get t.batches name) None) ≡ None → or_else o (map.get t.batches name) ≡ Some rows
      → has_live_row (set.union s.deleted t.deleted) (name, rows) ≡ false
  sealed_dropped name rows b (Some x) is none has = cc
  sealed_dropped name rows false None is none has = let both : None ≡ Some rows = sym none ∙ has in cc
  sealed_dropped name rows true None is none has =
      let short : length rows ≤ row_limit = limit name rows has in
      dead_from (set.union s.deleted t.deleted) name rows 0 (λ k from below. first_has name k (listed name is k (omega (arith, below, short))))

  sealed : IsRestOf (join s (left_out names t)) (join s t)
  sealed = record {
    deleted = ap (set.union s.deleted) (deleted-left_out names t);
    held = λ name rows has. get-union s.batches t.batches name ∙ sealed_held name rows (set.contains names name) (map.get s.batches name) (ap (or_else (map.get s.batches name)) (sym (get-left_out names t name)) ∙ sym (get-union s.batches (left_out names t).batches name) ∙ has);
    dropped = λ name rows none has. sealed_dropped name rows (set.contains names name) (map.get s.batches name) refl (ap (or_else (map.get s.batches name)) (sym (get-left_out names t name)) ∙ sym (get-union s.batches (left_out names t).batches name) ∙ none) (sym (get-union s.batches t.batches name) ∙ has);
  }

pub offer_laws : ForgetOfferLaws
offer_laws = record { offer = offer; sealed_names = sealed }
