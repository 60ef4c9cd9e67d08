-- What the test of two states tells; it is an order, and a join and what is left of it have all that the joined states have.
use Rattle.std.specs.Prelude.{◌≡◌, ◌⊎◌, Bool, true, false, cond, not, ◌&&◌, ◌||◌, T, List, [], ◌∷◌, Option, Some, None}
use Rattle.std.proofs.Common.{refl, sym, ap, ◌∙◌, inl, inr}
use Rattle.std.proofs.lemmas.Bool.{and_parts, not-true}
use Rattle.std.specs.FinMap as map
use Rattle.std.specs.FinMap.Entries.{is_sorted}
use Rattle.std.specs.FinSet as set
use Rattle.std.specs.List.{list_any, list_all}
use Rattle.std.specs.Ordering.{eq_by_cmp}
use Rattle.table_model.specs.Name.{name_cmp}
use Rattle.table_model.specs.State.{State, Batch, Agree, join, same_rows}
use Rattle.table_model.specs.declared.names.BatchName.{BatchName}
use Rattle.table_model.specs.declared.names.RowName.{RowName}
use Rattle.table_model.proofs.NameOrder.{row_names_total, exact_row_names}
use Rattle.table_model.proofs.Joins.{or_else, get-union}
use Rattle.table_model.proofs.Operations.{same_name, itself}
use Rattle.table_model.proofs.Passed.{first_of_both, second_of_both}
use Rattle.table_model.proofs.SameRows.{one_batch, itself_batch}
use Rattle.replica_store.specs.Forgotten.{has_live_row, IsRestOf}
use Rattle.replica_store.proofs.Rests.{Rows, Named, alive, rows_at, find-below}
use Rattle.folder_parts.specs.Covers.{are_held, has_or_deletes, covers_state, HasAll}

abbrev Entry : Type 0
Entry = BatchName × Batch

-- ---- what the test tells

-- each entry that is found passes a test that all pass
each_found : (p : Entry → Bool) (es : List Entry) → list_all p es ≡ true → (q : BatchName) (rows : Batch) → map.find name_cmp q es ≡ Some rows → p (q, rows) ≡ true
each_found p [] all q rows found = cc
each_found p (e ∷ es) all q rows found =
    let both = and_parts (p e) (list_all p es) all in
    elim (eq_by_cmp name_cmp q e.0) as (λ b. eq_by_cmp name_cmp q e.0 ≡ b → cond b (Some e.1) (map.find name_cmp q es) ≡ Some rows → p (q, rows) ≡ true) [
      | true ↦ λ tied is.
          let name : q ≡ e.0 = same_name q e.0 tied in
          let same : rows ≡ e.1 = cc in (λ i. p (name i, same i)) ∙ both.0
      | false ↦ λ tied is. each_found p es both.1 q rows is
    ] refl found

-- what is found after the first entry is found from it on
found_later : (e : Entry) (es : List Entry) (q : BatchName) (rows : Batch) → T (is_sorted name_cmp (e ∷ es)) → map.find name_cmp q es ≡ Some rows → map.find name_cmp q (e ∷ es) ≡ Some rows
found_later e es q rows sorted found =
    elim (eq_by_cmp name_cmp q e.0) as (λ b. eq_by_cmp name_cmp q e.0 ≡ b → cond b (Some e.1) (map.find name_cmp q es) ≡ Some rows) [
      | true ↦ λ tied.
          let none : map.find name_cmp q es ≡ None = ap (λ n. map.find name_cmp n es) (same_name q e.0 tied) ∙ find-below e.0 es (first_of_both _ _ sorted) in cc
      | false ↦ λ tied. found
    ] refl

-- all entries pass a test that each one passes that is found
all_found : (p : Entry → Bool) (es : List Entry) → T (is_sorted name_cmp es) → ((q : BatchName) (rows : Batch) → map.find name_cmp q es ≡ Some rows → p (q, rows) ≡ true) → list_all p es ≡ true
all_found p [] sorted each = refl
all_found p (e ∷ es) sorted each =
    let here : p e ≡ true = each e.0 e.1 (ap (λ b. cond b (Some e.1) (map.find name_cmp e.0 es)) (itself e.0)) in
    let rest : list_all p es ≡ true = all_found p es (second_of_both _ _ sorted) (λ q rows found. each q rows (found_later e es q rows sorted found)) in λ i. here i && rest i

either_is : (o : Option Batch) (rows : Batch) (live : Bool) → (are_held o rows || not live) ≡ true → (o ≡ Some rows) ⊎ (live ≡ false)
either_is None rows true e = cc
either_is None rows false e = inr refl
either_is (Some held) rows live e =
    elim (same_rows held rows) as (λ b. same_rows held rows ≡ b → (b || not live) ≡ true → (Some held ≡ Some rows) ⊎ (live ≡ false)) [
      | true ↦ λ same _. inl (ap Some (one_batch held rows same))
      | false ↦ λ _ dead. inr (not-true live dead)
    ] refl e

is_either : (o : Option Batch) (rows : Batch) (live : Bool) → (o ≡ Some rows) ⊎ (live ≡ false) → (are_held o rows || not live) ≡ true
is_either o rows live (inl e) = ap (λ (o : Option Batch). are_held o rows || not live) e ∙ ap (λ b. b || not live) (itself_batch rows)
is_either o rows live (inr e) = ap (λ b. are_held o rows || not b) e ∙ or-true (are_held o rows)
  where
    or-true : (b : Bool) → (b || true) ≡ true
    or-true true = refl
    or-true false = refl

module _ (s t : State) where
  pub has_all : covers_state s t ≡ true → HasAll s t
  unfolding covers_state
  has_all e =
      let both = and_parts (set.is_subset t.deleted s.deleted) (list_all (has_or_deletes s) (map.entries t.batches)) e in
      record {
        deleted = set.is_subset-contains row_names_total t.deleted s.deleted both.0;
        batches = λ name rows has.
            either_is (map.get s.batches name) rows (has_live_row s.deleted (name, rows))
            (each_found (has_or_deletes s) (map.entries t.batches) both.1 name rows (sym (map.get-entries t.batches name) ∙ has));
      }

  pub all_is_had : HasAll s t → covers_state s t ≡ true
  unfolding covers_state
  all_is_had h =
      let rows : set.is_subset t.deleted s.deleted ≡ true = set.contains-is_subset row_names_total t.deleted s.deleted h.deleted in
      let batches : list_all (has_or_deletes s) (map.entries t.batches) ≡ true =
      all_found (has_or_deletes s) (map.entries t.batches) (map.entries_sorted t.batches) (λ q rows found.
      is_either (map.get s.batches q) rows (has_live_row s.deleted (q, rows)) (h.batches q rows (map.get-entries t.batches q ∙ found))) in λ i. rows i && batches i

-- ---- it is an order

-- rows that are deleted are so among more deletions
dead_among : (d f : Rows) → ((row : RowName) → set.contains d row ≡ true → set.contains f row ≡ true) → (rows : List Named) → list_any (alive d) rows ≡ false → list_any (alive f) rows ≡ false
dead_among d f more [] e = refl
dead_among d f more (r ∷ rows) e =
    elim (set.contains d r.0) as (λ b. set.contains d r.0 ≡ b → (not b || list_any (alive d) rows) ≡ false → list_any (alive f) (r ∷ rows) ≡ false) [
      | true ↦ λ is left. ap (λ b. not b || list_any (alive f) rows) (more r.0 is) ∙ dead_among d f more rows left
      | false ↦ λ is left. cc
    ] refl e

pub has_itself : (s : State) → HasAll s s
has_itself s = record { deleted = λ row has. has; batches = λ name rows has. inl has }

pub has_along : (s t u : State) → HasAll s t → HasAll t u → HasAll s u
has_along s t u a b = record {
  deleted = λ row has. a.deleted row (b.deleted row has);
  batches = λ name rows has. elim (b.batches name rows has) as (λ _. (map.get s.batches name ≡ Some rows) ⊎ (has_live_row s.deleted (name, rows) ≡ false)) [
    | inl there ↦ a.batches name rows there
    | inr dead ↦ inr (dead_among t.deleted s.deleted a.deleted (rows_at (name, rows)) dead)
  ];
}

-- ---- joins, and what is left of them

-- what is left of a state has all that it has
pub rest_has : (s whole : State) → IsRestOf s whole → HasAll s whole
rest_has s whole rest = record {
  deleted = λ row has. ap (λ (d : Rows). set.contains d row) rest.deleted ∙ has;
  batches = λ name rows has. elim (map.get s.batches name) as (λ o. map.get s.batches name ≡ o → (o ≡ Some rows) ⊎ (has_live_row s.deleted (name, rows) ≡ false)) [
    | Some held ↦ λ is. inl (sym (rest.held name held is) ∙ has)
    | None ↦ λ is. inr (ap (λ (d : Rows). has_live_row d (name, rows)) rest.deleted ∙ rest.dropped name rows is has)
  ] refl;
}

pub or_first : (a b : Bool) → a ≡ true → (a || b) ≡ true
or_first a b e = ap (λ x. x || b) e

pub or_second : (a b : Bool) → b ≡ true → (a || b) ≡ true
or_second true b e = refl
or_second false b e = e

join_has_first : (s t : State) → HasAll (join s t) s
join_has_first s t = record {
  deleted = λ row has. set.contains-union row_names_total s.deleted t.deleted row ∙ or_first (set.contains s.deleted row) (set.contains t.deleted row) has;
  batches = λ name rows has. inl (get-union s.batches t.batches name ∙ ap (λ (o : Option Batch). or_else o (map.get t.batches name)) has);
}

join_has_second : (s t : State) → Agree s t → HasAll (join s t) t
join_has_second s t agree = record {
  deleted = λ row has. set.contains-union row_names_total s.deleted t.deleted row ∙ or_second (set.contains s.deleted row) (set.contains t.deleted row) has;
  batches = λ name rows has. inl (get-union s.batches t.batches name ∙ chosen name rows has (map.get s.batches name) refl);
}
  where
    chosen : (name : BatchName) (rows : Batch) → map.get t.batches name ≡ Some rows → (o : Option Batch) → map.get s.batches name ≡ o → or_else o (map.get t.batches name) ≡ Some rows
    chosen name rows has None is = has
    chosen name rows has (Some held) is = ap Some (agree name held rows is has)

-- what is left of a join has all that the joined states have
pub has_first : (s t left : State) → IsRestOf left (join s t) → HasAll left s
has_first s t left rest = has_along left (join s t) s (rest_has left (join s t) rest) (join_has_first s t)

pub has_second : (s t left : State) → Agree s t → IsRestOf left (join s t) → HasAll left t
has_second s t left agree rest = has_along left (join s t) t (rest_has left (join s t) rest) (join_has_second s t agree)

-- a state that has all that another has is what is left of their join
pub has_rests : (s t : State) → HasAll s t → Agree s t → IsRestOf s (join s t)
has_rests s t h agree = record {
  deleted = same;
  held = λ name rows has. get-union s.batches t.batches name ∙ ap (λ (o : Option Batch). or_else o (map.get t.batches name)) has;
  dropped = λ name rows none has.
      let there : map.get t.batches name ≡ Some rows = ap (λ (o : Option Batch). or_else o (map.get t.batches name)) (sym none) ∙ sym (get-union s.batches t.batches name) ∙ has in
      elim (h.batches name rows there) as (λ _. has_live_row (set.union s.deleted t.deleted) (name, rows) ≡ false) [
        | inl held ↦ let both : None ≡ Some rows = sym none ∙ held in cc
        | inr dead ↦ ap (λ (d : Rows). has_live_row d (name, rows)) (sym same) ∙ dead
      ];
}
  where
    more : (a b : Bool) → (b ≡ true → a ≡ true) → a ≡ (a || b)
    more true b has = refl
    more false false has = refl
    more false true has = has refl

    same : s.deleted ≡ set.union s.deleted t.deleted
    same = set.same_set row_names_total exact_row_names s.deleted (set.union s.deleted t.deleted) (λ row.
        more (set.contains s.deleted row) (set.contains t.deleted row) (h.deleted row) ∙ sym (set.contains-union row_names_total s.deleted t.deleted row))
