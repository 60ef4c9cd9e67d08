-- What is left of a state.
use Rattle.std.specs.Prelude.{◌≡◌, ◌≢◌, ℕ, suc, Bool, true, false, cond, not, ◌&&◌, ◌||◌, T, List, [], ◌∷◌, ◌++◌, filter, map as each, Option, Some, None}
use Rattle.std.proofs.Common.{refl, sym, ap, subst, ◌∙◌}
use Rattle.std.specs.List.{list_any, flat_map}
use Rattle.std.specs.Ordering.{eq_by_cmp, is_lt, is_eq}
use Rattle.std.specs.FinMap as map
use Rattle.std.specs.FinMap.Entries.{below_all, is_sorted}
use Rattle.std.specs.FinSet as set
use Rattle.table_model.specs.Name.{name_cmp, row_name_cmp}
use Rattle.table_model.specs.State.{State, Batch, Cells, Agree, union_of, join, named_from, named_rows, live_rows}
use Rattle.table_model.specs.Meaning.{answer_of, answer_over, names_where, is_kept, at_row}
use Rattle.table_model.specs.Operation.{Operation, AreAgreeing, SameOperations, state_of}
use Rattle.table_model.specs.Formula.{Formula}
use Rattle.table_model.specs.Query.{QueryShape}
use Rattle.table_model.specs.Table.{Table}
use Rattle.table_model.specs.declared.names.BatchName.{BatchName}
use Rattle.table_model.specs.declared.names.RowName.{RowName}
use Rattle.table_model.proofs.NameOrder.{names_total, row_names_total, exact_names}
use Rattle.table_model.proofs.Operations.{same_name, state_of-same}
use Rattle.table_model.proofs.Joins.{or_else, get-union, same_states, same_maps, join-agree}
use Rattle.table_model.proofs.Passed.{first_of_both, second_of_both, less_is}
use Rattle.replica_store.specs.Forgotten.{has_live_row, forgotten, IsRestOf, ForgetLaws}

abbrev pub Rows : Type 0
Rows = set.FinSet row_name_cmp

abbrev Entry : Type 0
Entry = BatchName × Batch

both : (a b : Bool) → T a → T b → T (a && b)
both true b p q = q
both false b p q = absurd p

module _ {X : Type 0} where
  abbrev Sorted : List (BatchName × X) → Type 0
  Sorted es = T (is_sorted name_cmp es)

  -- a filter keeps the order
  below-filter : (p : BatchName × X → Bool) (q : BatchName) (es : List (BatchName × X)) → T (below_all name_cmp q es) → T (below_all name_cmp q (filter p es))
  below-filter p q [] h = tt
  below-filter p q (e ∷ es) h =
      let rest = below-filter p q es (second_of_both _ _ h) in
      elim (p e) as (λ b. T (below_all name_cmp q (cond b (e ∷ filter p es) (filter p es)))) [ true ↦ both _ _ (first_of_both _ _ h) rest | false ↦ rest ]

  pub Sorted-filter : (p : BatchName × X → Bool) (es : List (BatchName × X)) → Sorted es → Sorted (filter p es)
  Sorted-filter p [] h = tt
  Sorted-filter p (e ∷ es) h =
      let rest = Sorted-filter p es (second_of_both _ _ h) in
      elim (p e) as (λ b. Sorted (cond b (e ∷ filter p es) (filter p es))) [ true ↦ both _ _ (below-filter p e.0 es (first_of_both _ _ h)) rest | false ↦ rest ]

  -- a name below all names isn't found
  pub find-below : (q : BatchName) (es : List (BatchName × X)) → T (below_all name_cmp q es) → map.find name_cmp q es ≡ None
  find-below q [] h = refl
  find-below q (e ∷ es) h = ap (λ r. cond (is_eq r) (Some e.1) (map.find name_cmp q es)) (less_is _ (first_of_both _ _ h)) ∙ find-below q es (second_of_both _ _ h)

  -- what is found where batches are kept by a test
  abbrev pub kept : (BatchName × X → Bool) → BatchName → Option X → Option X
  kept p q None = None
  kept p q (Some x) = cond (p (q, x)) (Some x) None

  pub find-filter : (p : BatchName × X → Bool) (q : BatchName) (es : List (BatchName × X)) → Sorted es → map.find name_cmp q (filter p es) ≡ kept p q (map.find name_cmp q es)
  find-filter p q [] h = refl
  find-filter p q (e ∷ es) h =
      let rest = find-filter p q es (second_of_both _ _ h) in
      elim (eq_by_cmp name_cmp q e.0) as (λ t. eq_by_cmp name_cmp q e.0 ≡ t → map.find name_cmp q (cond (p e) (e ∷ filter p es) (filter p es)) ≡ kept p q (cond t (Some e.1) (map.find name_cmp q es))) [
        | true ↦ λ tied.
            let same : q ≡ e.0 = same_name q e.0 tied in
            let below : T (below_all name_cmp q es) = subst (λ (n : BatchName). T (below_all name_cmp n es)) (sym same) (first_of_both _ _ h) in
            let none : map.find name_cmp q (filter p es) ≡ None = find-below q (filter p es) (below-filter p q es below) in
            elim (p e) as (λ b. map.find name_cmp q (cond b (e ∷ filter p es) (filter p es)) ≡ cond b (Some e.1) None) [
              | true ↦ ap (λ b. cond b (Some e.1) (map.find name_cmp q (filter p es))) tied
              | false ↦ none
            ] ∙ ap (λ (n : BatchName). cond (p (n, e.1)) (Some e.1) None) (sym same)
        | false ↦ λ tied. elim (p e) as (λ b. map.find name_cmp q (cond b (e ∷ filter p es) (filter p es)) ≡ kept p q (map.find name_cmp q es)) [
          | true ↦ ap (λ b. cond b (Some e.1) (map.find name_cmp q (filter p es))) tied ∙ rest
          | false ↦ rest
        ]
      ] refl

  -- what is kept was there
  pub kept_is : (p : BatchName × X → Bool) (q : BatchName) (o : Option X) (x : X) → kept p q o ≡ Some x → o ≡ Some x
  kept_is p q None x e = cc
  kept_is p q (Some r) x e = elim (p (q, r)) as (λ b. cond b (Some r) None ≡ Some x → Some r ≡ Some x) [ true ↦ λ is. is | false ↦ λ is. cc ] e

  kept_not : (p : BatchName × X → Bool) (q : BatchName) (x : X) → kept p q (Some x) ≡ None → p (q, x) ≡ false
  kept_not p q x e = elim (p (q, x)) as (λ b. cond b (Some x) None ≡ None → b ≡ false) [ true ↦ λ is. cc | false ↦ λ is. refl ] e

  -- what is kept passes the test
  kept_passes : (p : BatchName × X → Bool) (q : BatchName) (o : Option X) (x : X) → kept p q o ≡ Some x → p (q, x) ≡ true
  kept_passes p q None x e = cc
  kept_passes p q (Some r) x e =
      let same : Some r ≡ Some x = kept_is p q (Some r) x e in
      let one : r ≡ x = cc in
      elim (p (q, r)) as (λ b. p (q, r) ≡ b → cond b (Some r) None ≡ Some x → p (q, x) ≡ true) [
        | true ↦ λ is _. ap (λ (y : X). p (q, y)) (sym one) ∙ is
        | false ↦ λ is none. cc
      ] refl e

-- what is there once a state is forgotten
pub get-forgotten : (s : State) (q : BatchName) → map.get (forgotten s).batches q ≡ kept (has_live_row s.deleted) q (map.get s.batches q)
unfolding forgotten
get-forgotten s q =
    let p : Entry → Bool = has_live_row s.deleted in
    map.get-from_sorted name_cmp (filter p (map.entries s.batches)) q (Sorted-filter p (map.entries s.batches) (map.entries_sorted s.batches))
    ∙ find-filter p q (map.entries s.batches) (map.entries_sorted s.batches)
    ∙ ap (kept p q) (sym (map.get-entries s.batches q))

pub deleted-forgotten : (s : State) → (forgotten s).deleted ≡ s.deleted
unfolding forgotten
deleted-forgotten s = refl

pub forgets : (s : State) → IsRestOf (forgotten s) s
forgets s = record {
  deleted = deleted-forgotten s;
  held = λ name rows has. kept_is (has_live_row s.deleted) name (map.get s.batches name) rows (sym (get-forgotten s name) ∙ has);
  dropped = λ name rows none has. kept_not (has_live_row s.deleted) name rows (ap (kept (has_live_row s.deleted) name) (sym has) ∙ sym (get-forgotten s name) ∙ none);
}

pub nothing : (s : State) → IsRestOf s s
nothing s = record { deleted = refl; held = λ name rows has. has; dropped = λ name rows none has. let both : None ≡ Some rows = sym none ∙ has in cc }

pub then_more : (r s t : State) → IsRestOf r s → IsRestOf s t → IsRestOf r t
then_more r s t a b = record {
  deleted = a.deleted ∙ b.deleted;
  held = λ name rows has. b.held name rows (a.held name rows has);
  dropped = λ name rows none has. elim (map.get s.batches name) as (λ o. map.get s.batches name ≡ o → has_live_row t.deleted (name, rows) ≡ false) [
    | None ↦ λ is. b.dropped name rows is has
    | Some x ↦ λ is.
        let same : x ≡ rows = some_same x rows (sym (b.held name x is) ∙ has) in
        ap (λ (d : Rows). has_live_row d (name, rows)) (sym b.deleted) ∙ a.dropped name rows none (is ∙ ap Some same)
  ] refl;
}
  where
    some_same : (x y : Batch) → Some x ≡ Some y → x ≡ y
    some_same x y e = cc

-- what is kept of what is left is what is kept of the whole
kept_alike : (p : Entry → Bool) (q : BatchName) (a b : Option Batch) → ((rows : Batch) → a ≡ Some rows → b ≡ Some rows) → ((rows : Batch) → a ≡ None → b ≡ Some rows → p (q, rows) ≡ false) → kept p q a ≡ kept p q b
kept_alike p q None None held dropped = refl
kept_alike p q None (Some r) held dropped = sym (ap (λ b. cond b (Some r) None) (dropped r refl refl))
kept_alike p q (Some r) b held dropped = sym (ap (kept p q) (held r refl))

pub least : (s whole : State) → IsRestOf s whole → forgotten s ≡ forgotten whole
least s whole rest = same_states _ _
    (same_maps _ _ (λ q.
    get-forgotten s q
    ∙ ap (λ (d : Rows). kept (has_live_row d) q (map.get s.batches q)) rest.deleted
    ∙ kept_alike (has_live_row whole.deleted) q (map.get s.batches q) (map.get whole.batches q) (rest.held q) (rest.dropped q)
    ∙ sym (get-forgotten whole q)))
    (deleted-forgotten s ∙ rest.deleted ∙ sym (deleted-forgotten whole))

abbrev pub Named : Type 0
Named = RowName × Cells

abbrev pub alive : Rows → Named → Bool
alive deleted r = not (set.contains deleted r.0)

abbrev pub rows_at : Entry → List Named
rows_at e = named_from e.0 0 e.1

filter-append : (p : Named → Bool) (xs ys : List Named) → filter p (xs ++ ys) ≡ filter p xs ++ filter p ys
filter-append p [] ys = refl
filter-append p (x ∷ xs) ys =
    let rest = filter-append p xs ys in
    elim (p x) as (λ b. cond b (x ∷ filter p (xs ++ ys)) (filter p (xs ++ ys)) ≡ cond b (x ∷ filter p xs) (filter p xs) ++ filter p ys) [ true ↦ ap (λ (l : List Named). x ∷ l) rest | false ↦ rest ]

none_pass : (p : Named → Bool) (xs : List Named) → list_any p xs ≡ false → filter p xs ≡ []
none_pass p [] e = refl
none_pass p (x ∷ xs) e =
    elim (p x) as (λ b. (b || list_any p xs) ≡ false → cond b (x ∷ filter p xs) (filter p xs) ≡ []) [ true ↦ λ is. cc | false ↦ λ is. none_pass p xs is ] e

-- batches without a live row add nothing to the live rows
live-filter : (d : Rows) (es : List Entry) → filter (alive d) (flat_map rows_at (filter (has_live_row d) es)) ≡ filter (alive d) (flat_map rows_at es)
live-filter d [] = refl
live-filter d (e ∷ es) =
    let rest = live-filter d es in
    elim (has_live_row d e) as (λ b. has_live_row d e ≡ b → filter (alive d) (flat_map rows_at (cond b (e ∷ filter (has_live_row d) es) (filter (has_live_row d) es))) ≡ filter (alive d) (rows_at e ++ flat_map rows_at es)) [
      | true ↦ λ _.
          filter-append (alive d) (rows_at e) (flat_map rows_at (filter (has_live_row d) es))
          ∙ ap (λ (l : List Named). filter (alive d) (rows_at e) ++ l) rest
          ∙ sym (filter-append (alive d) (rows_at e) (flat_map rows_at es))
      | false ↦ λ dead.
          rest
          ∙ ap (λ (l : List Named). l ++ filter (alive d) (flat_map rows_at es)) (sym (none_pass (alive d) (rows_at e) dead))
          ∙ sym (filter-append (alive d) (rows_at e) (flat_map rows_at es))
    ] refl

live-forgotten : (s : State) → live_rows (forgotten s) ≡ live_rows s
unfolding forgotten live_rows
live-forgotten s =
    let p : Entry → Bool = has_live_row s.deleted in
    ap (λ (es : List Entry). filter (alive s.deleted) (flat_map rows_at es)) (map.entries-from_sorted name_cmp (filter p (map.entries s.batches)) (Sorted-filter p (map.entries s.batches) (map.entries_sorted s.batches)))
    ∙ live-filter s.deleted (map.entries s.batches)

pub live : (s whole : State) → IsRestOf s whole → live_rows s ≡ live_rows whole
live s whole rest = sym (live-forgotten s) ∙ ap live_rows (least s whole rest) ∙ live-forgotten whole

pub answers : (s whole : State) (table : Table) (query : QueryShape) → IsRestOf s whole → answer_of table query s ≡ answer_of table query whole
unfolding answer_of
answers s whole table query rest = ap (λ (rows : List Named). answer_over table query (each (λ (r : Named). r.1) rows)) (live s whole rest)

finds : (s whole : State) (table : Table) (condition : Formula) → IsRestOf s whole → names_where table condition s ≡ names_where table condition whole
unfolding names_where
finds s whole table condition rest = ap (λ (rows : List Named). each (λ (r : Named). r.0) (filter (λ (r : Named). is_kept (Some condition) (at_row table.columns r.1)) rows)) (live s whole rest)

pub agrees : (s t whole other : State) → Agree whole other → IsRestOf s whole → IsRestOf t other → Agree s t
agrees s t whole other agree rest other_rest = λ name a b has at. agree name a b (rest.held name a has) (other_rest.held name b at)

-- rows that are deleted are deleted among more deletions
pub dead_first : (d f : Rows) (rows : List Named) → list_any (alive d) rows ≡ false → list_any (alive (set.union d f)) rows ≡ false
dead_first d f [] e = refl
dead_first d f (r ∷ rows) e =
    let at : set.contains (set.union d f) r.0 ≡ (set.contains d r.0 || set.contains f r.0) = set.contains-union row_names_total d f r.0 in
    elim (set.contains d r.0) as (λ b. set.contains (set.union d f) r.0 ≡ (b || set.contains f r.0) → (not b || list_any (alive d) rows) ≡ false → list_any (alive (set.union d f)) (r ∷ rows) ≡ false) [
      | true ↦ λ is left. ap (λ b. not b || list_any (alive (set.union d f)) rows) is ∙ dead_first d f rows left
      | false ↦ λ is left. cc
    ] at e

pub dead_second : (d f : Rows) (rows : List Named) → list_any (alive f) rows ≡ false → list_any (alive (set.union d f)) rows ≡ false
dead_second d f [] e = refl
dead_second d f (r ∷ rows) e =
    let at : set.contains (set.union d f) r.0 ≡ (set.contains d r.0 || set.contains f r.0) = set.contains-union row_names_total d f r.0 in
    elim (set.contains f r.0) as (λ b. set.contains (set.union d f) r.0 ≡ (set.contains d r.0 || b) → (not b || list_any (alive f) rows) ≡ false → list_any (alive (set.union d f)) (r ∷ rows) ≡ false) [
      | true ↦ λ is left. ap (λ b. not b || list_any (alive (set.union d f)) rows) (is ∙ or-true (set.contains d r.0)) ∙ dead_second d f rows left
      | false ↦ λ is left. cc
    ] at e
  where
    or-true : (b : Bool) → (b || true) ≡ true
    or-true true = refl
    or-true false = refl

module _ (s t whole other : State) (agree : Agree whole other) (rest : IsRestOf s whole) (other_rest : IsRestOf t other) where
  join_held : (name : BatchName) (rows : Batch) (a b : Option Batch) → map.get s.batches name ≡ a → map.get t.batches name ≡ b → or_else a b ≡ Some rows → or_else (map.get whole.batches name) (map.get other.batches name) ≡ Some rows
  join_held name rows (Some x) b has at is = ap (λ (o : Option Batch). or_else o (map.get other.batches name)) (rest.held name x has) ∙ is
  join_held name rows None b has at is =
      let there : map.get other.batches name ≡ Some rows = other_rest.held name rows (at ∙ is) in
      elim (map.get whole.batches name) as (λ o. map.get whole.batches name ≡ o → or_else o (map.get other.batches name) ≡ Some rows) [
        | None ↦ λ _. there
        | Some y ↦ λ is_y. ap Some (agree name y rows is_y there)
      ] refl

  join_dropped : (name : BatchName) (rows : Batch) (a b : Option Batch) → map.get s.batches name ≡ a → map.get t.batches name ≡ b → or_else a b ≡ None → or_else (map.get whole.batches name) (map.get other.batches name) ≡ Some rows
      → has_live_row (set.union whole.deleted other.deleted) (name, rows) ≡ false
  join_dropped name rows (Some x) b has at none is = cc
  join_dropped name rows None b has at none is =
      elim (map.get whole.batches name) as (λ o. map.get whole.batches name ≡ o → or_else o (map.get other.batches name) ≡ Some rows → has_live_row (set.union whole.deleted other.deleted) (name, rows) ≡ false) [
        | None ↦ λ _ found. dead_second whole.deleted other.deleted (rows_at (name, rows)) (other_rest.dropped name rows (at ∙ none) found)
        | Some y ↦ λ is_y found. dead_first whole.deleted other.deleted (rows_at (name, rows)) (rest.dropped name rows has (is_y ∙ found))
      ] refl is

  pub joins : IsRestOf (join s t) (join whole other)
  joins = record {
    deleted = λ i. set.union (rest.deleted i) (other_rest.deleted i);
    held = λ name rows has. get-union whole.batches other.batches name ∙ join_held name rows _ _ refl refl (sym (get-union s.batches t.batches name) ∙ has);
    dropped = λ name rows none has. join_dropped name rows _ _ refl refl (sym (get-union s.batches t.batches name) ∙ none) (sym (get-union whole.batches other.batches name) ∙ has);
  }

taken : (s t : State) (ops others : List Operation) → AreAgreeing ops → SameOperations ops others → IsRestOf s (state_of ops) → IsRestOf t (state_of others) → (live_rows s ≡ live_rows t) × (forgotten s ≡ forgotten t)
taken s t ops others agree same rest other_rest =
    let one : state_of ops ≡ state_of others = state_of-same ops others agree same in
    (live s (state_of ops) rest ∙ ap live_rows one ∙ sym (live t (state_of others) other_rest), least s (state_of ops) rest ∙ ap forgotten one ∙ sym (least t (state_of others) other_rest))

pub forgets_all : ForgetLaws
forgets_all = record {
  forgets = forgets;
  nothing = nothing;
  then = then_more;
  live = live;
  answers = answers;
  finds = finds;
  least = least;
  again = λ s. least (forgotten s) s (forgets s);
  smallest = λ s whole rest. subst (λ (t : State). IsRestOf t s) (least s whole rest) (forgets s);
  each_live = λ s name rows has. kept_passes (has_live_row s.deleted) name (map.get s.batches name) rows (sym (get-forgotten s name) ∙ has);
  agree = agrees;
  joins = joins;
  joined = λ s t agree. least (join (forgotten s) (forgotten t)) (join s t) (joins (forgotten s) (forgotten t) s t agree (forgets s) (forgets t));
  taken = taken;
}
