-- A store that drops the batches of which every row is deleted: its parts, its names, its rows and its limits.
use Rattle.std.specs.Prelude.{◌≡◌, ℕ, zero, suc, ◌+◌, ◌<◌, ◌≤◌, drop, ◌||◌, ◌&&◌, Bool, true, false, cond, not, List, [], ◌∷◌, ◌++◌, filter, length, Option, Some, None, Result, Ok, is_some}
use Rattle.std.proofs.Common.{refl, sym, ap, subst, ◌∙◌, arith, get_or}
use Rattle.std.specs.List.{All, list_any, list_all}
use Rattle.std.proofs.lemmas.List.{length-append, get_or_append_left, get_or-append-add}
use Rattle.std.proofs.lemmas.List.Folds.{list_all-append}
use Rattle.std.specs.Option.{option_map}
use Rattle.std.specs.Ordering.{eq_by_cmp}
use Rattle.std.specs.FinMap as map
use Rattle.std.specs.FinSet as set
use Rattle.table_model.specs.Name.{name_cmp, row_name_cmp}
use Rattle.table_model.specs.State.{State, Batch, Cells, named_from, live_rows}
use Rattle.table_model.specs.Table.{Table}
use Rattle.table_model.specs.declared.names.BatchName.{BatchName}
use Rattle.table_model.specs.declared.names.RowName.{RowName}
use Rattle.table_model.specs.declared.refusal.Refusal.{Refusal}
use Rattle.table_model.specs.declared.names.Origin.{Origin}
use Rattle.table_model.proofs.NameOrder.{names_total, exact_names}
use Rattle.table_model.proofs.Joins.{or_else, find-append, same_maps, same_states}
use Rattle.segment_core.specs.Segment.{SegmentForm}
use Rattle.catalogue_join.specs.RowRange.{row_names}
use Rattle.replica_store.specs.Forgotten.{has_live_row, forgotten}
use Rattle.replica_store.proofs.Rests.{Sorted-filter, find-filter, kept, kept_is, get-forgotten, deleted-forgotten, forgets, live}
use Rattle.replica_store.specs.Forgets.{is_live_entry, live_entries, live_segments, forgotten_batches}
use Rattle.replica_store.specs.Parted.{Each, IsUpTo, IsPast, AreKeptInParts}
use Rattle.replica_store.specs.Replica.{Replica}
use Rattle.replica_store.specs.Segments.{Entry, Segments, BatchesForm, AreStored, HasProperName, IsSoundStore, rows_in}
use Rattle.replica_store.proofs.Maps.{Sorted, as_map, entries-as_map, get-as_map, len-as_map}
use Rattle.replica_store.proofs.Names.{contains-names_of, some_cond}
use Rattle.replica_store.proofs.RowsIn.{rows, get-rows_in, len-rows_in}
use Rattle.replica_store.proofs.Stored.{AllFit-rows_in, All-stored}

abbrev Rows : Type 0
Rows = set.FinSet row_name_cmp

-- a row that isn't deleted is one of those that aren't all
not_both : (a b : Bool) → (not a || not b) ≡ not (a && b)
not_both true b = refl
not_both false b = refl

live_from : (d : Rows) (name : BatchName) (n : ℕ) (batch : Batch) → list_any (λ (r : RowName × Cells). not (set.contains d r.0)) (named_from name n batch) ≡ not (list_all (set.contains d) (row_names name n (length batch)))
live_from d name n [] = refl
live_from d name n (row ∷ batch) =
    let here : RowName = record { batch = name; ordinal = n } in
    let next : suc n ≡ n + 1 = omega arith in
    ap (λ (b : Bool). not (set.contains d here) || b) (live_from d name (suc n) batch ∙ ap (λ (k : ℕ). not (list_all (set.contains d) (row_names name k (length batch)))) next)
    ∙ not_both (set.contains d here) (list_all (set.contains d) (row_names name (n + 1) (length batch)))

-- a batch has a row that isn't deleted where not all its rows are
pub live_is : (d : Rows) (e : Entry) (n : ℕ) (all : Bool) → n ≡ length e.1.rows → all ≡ list_all (set.contains d) (row_names e.0 0 n) → not all ≡ is_live_entry d e
live_is d e n all count is = ap not (is ∙ ap (λ (k : ℕ). list_all (set.contains d) (row_names e.0 0 k)) count) ∙ sym (live_from d e.0 0 e.1.rows)

module _ {X : Type 0} where
  filter-append : (p : X → Bool) (xs ys : List X) → filter p (xs ++ ys) ≡ filter p xs ++ filter p ys
  filter-append p [] ys = refl
  filter-append p (x ∷ xs) ys =
      let rest = filter-append p xs ys in
      elim (p x) as (λ b. cond b (x ∷ filter p (xs ++ ys)) (filter p (xs ++ ys)) ≡ cond b (x ∷ filter p xs) (filter p xs) ++ filter p ys) [ true ↦ ap (λ (l : List X). x ∷ l) rest | false ↦ rest ]

  length-filter : (p : X → Bool) (xs : List X) → length (filter p xs) ≤ length xs
  length-filter p [] = omega arith
  length-filter p (x ∷ xs) =
      let rest = length-filter p xs in
      elim (p x) as (λ b. length (cond b (x ∷ filter p xs) (filter p xs)) ≤ suc (length xs)) [ true ↦ omega (arith, rest) | false ↦ omega (arith, rest) ]

  all_kept : (p : X → Bool) (xs : List X) → list_all p xs ≡ true → filter p xs ≡ xs
  all_kept p [] e = refl
  all_kept p (x ∷ xs) e =
      elim (p x) as (λ b. (b && list_all p xs) ≡ true → cond b (x ∷ filter p xs) (filter p xs) ≡ x ∷ xs) [
        | true ↦ λ is. ap (λ (l : List X). x ∷ l) (all_kept p xs is)
        | false ↦ λ is. cc
      ] e

  -- where a filter drops nothing each passes
  kept_all : (p : X → Bool) (xs : List X) → length xs ≤ length (filter p xs) → list_all p xs ≡ true
  kept_all p [] h = refl
  kept_all p (x ∷ xs) h =
      let fewer = length-filter p xs in
      elim (p x) as (λ b. suc (length xs) ≤ length (cond b (x ∷ filter p xs) (filter p xs)) → (b && list_all p xs) ≡ true) [
        | true ↦ λ le. kept_all p xs (omega (arith, le))
        | false ↦ λ le. absurd (omega (arith, le, fewer))
      ] h

Each-filter : {X : Type 0} (P : BatchName → Type 0) (p : BatchName × X → Bool) (es : List (BatchName × X)) → Each P es → Each P (filter p es)
Each-filter P p [] h = tt
Each-filter P p (e ∷ es) h =
    let rest = Each-filter P p es h.1 in
    elim (p e) as (λ b. Each P (cond b (e ∷ filter p es) (filter p es))) [ true ↦ (h.0, rest) | false ↦ rest ]

pub get-live : (d : Rows) (m : Segments) (q : BatchName) → map.get (live_segments d m) q ≡ kept (is_live_entry d) q (map.get m q)
unfolding live_segments
get-live d m q =
    let p : Entry → Bool = is_live_entry d in
    map.get-from_sorted name_cmp (filter p (map.entries m)) q (Sorted-filter p (map.entries m) (map.entries_sorted m))
    ∙ find-filter p q (map.entries m) (map.entries_sorted m)
    ∙ ap (kept p q) (sym (map.get-entries m q))

-- the rows of the segments that stay are what is left of the state
pub rows_in-live : (m : Segments) (d : Rows) → rows_in (live_segments d m) ≡ (forgotten (record { batches = rows_in m; deleted = d })).batches
rows_in-live m d = same_maps _ _ (λ q.
    get-rows_in (live_segments d m) q
    ∙ ap (option_map rows) (get-live d m q)
    ∙ inside q (map.get m q)
    ∙ ap (kept (has_live_row d) q) (sym (get-rows_in m q))
    ∙ sym (get-forgotten (record { batches = rows_in m; deleted = d }) q))
  where
    inside : (q : BatchName) (o : Option SegmentForm) → option_map rows (kept (is_live_entry d) q o) ≡ kept (has_live_row d) q (option_map rows o)
    inside q None = refl
    inside q (Some s) = elim (has_live_row d (q, s.rows)) as (λ b. option_map rows (cond b (Some s) None) ≡ cond b (Some s.rows) None) [ true ↦ refl | false ↦ refl ]

pub AreStored-live : (t : Table) (d : Rows) (m : Segments) → AreStored t m → AreStored t (live_segments d m)
AreStored-live t d m stored = λ q s has. stored q s (kept_is (is_live_entry d) q (map.get m q) s (sym (get-live d m q) ∙ has))

len-live : (d : Rows) (m : Segments) → map.len (live_segments d m) ≤ map.len m
unfolding live_segments
len-live d m =
    let es : List Entry = map.entries m in
    omega (arith, len-as_map (filter (is_live_entry d) es) (Sorted-filter (is_live_entry d) es (map.entries_sorted m)), length-filter (is_live_entry d) es, map.len-entries m)

-- what stays is within the limits
pub IsSoundStore-live : (t : Table) (own : Origin) (d : Rows) (old new : BatchesForm) → IsSoundStore t own old → new.own ≡ old.own → new.segments ≡ live_segments d old.segments → IsSoundStore t own new
IsSoundStore-live t own d old new sound same is =
    let stored : AreStored t new.segments = subst (AreStored t) (sym is) (AreStored-live t d old.segments sound.stored) in
    let fewer : map.len new.segments ≤ map.len old.segments = subst (λ (m : Segments). map.len m ≤ map.len old.segments) (sym is) (len-live d old.segments) in
    record {
      sound = record {
        own_proper = sound.sound.own_proper;
        within = record {
          limit = omega (arith, fewer, len-rows_in new.segments, len-rows_in old.segments, sound.sound.within.limit);
          fits = AllFit-rows_in t new.segments stored;
        };
      };
      stored = stored;
      parted = same ∙ sound.parted;
    }

is_some-or : {X : Type 0} (a b : Option X) → is_some (or_else a b) ≡ (is_some a || is_some b)
is_some-or None b = refl
is_some-or (Some x) b = refl

-- what stays of both parts, with the names of it
pub kept_live : (own : Origin) (d : Rows) (es fs : List Entry) (held new : set.FinSet name_cmp) → AreKeptInParts own es fs held
    → ((q : BatchName) → set.contains new q ≡ (is_some (map.find name_cmp q (live_entries d es)) || is_some (map.find name_cmp q (live_entries d fs))))
    → AreKeptInParts own (live_entries d es) (live_entries d fs) new
kept_live own d es fs held new keeps names =
    let p : Entry → Bool = is_live_entry d in
    let sorted : Sorted (filter p es ++ filter p fs) = subst Sorted (filter-append p es fs) (Sorted-filter p (es ++ fs) keeps.kept.sorted) in
    record {
      kept = record {
        sorted = sorted;
        names = set.same_set names_total exact_names _ _ (λ q.
            names q
            ∙ sym (is_some-or (map.find name_cmp q (filter p es)) (map.find name_cmp q (filter p fs)))
            ∙ ap is_some (sym (find-append (filter p es) (filter p fs) q))
            ∙ ap is_some (sym (get-as_map (filter p es ++ filter p fs) q sorted))
            ∙ sym (contains-names_of (as_map (filter p es ++ filter p fs)) q));
      };
      parted = record { up_to = Each-filter (IsUpTo own) p es keeps.parted.up_to; past = Each-filter (IsPast own) p fs keeps.parted.past };
    }

-- and the map of what stays
pub map_live : (d : Rows) (es fs : List Entry) → Sorted (es ++ fs) → as_map (live_entries d es ++ live_entries d fs) ≡ live_segments d (as_map (es ++ fs))
unfolding live_segments
map_live d es fs sorted =
    let p : Entry → Bool = is_live_entry d in
    ap as_map (sym (filter-append p es fs) ∙ ap (filter p) (sym (entries-as_map (es ++ fs) sorted)))

-- where each batch has a live row nothing is dropped
pub all_live : (d : Rows) (m : Segments) → list_all (is_live_entry d) (map.entries m) ≡ true → live_segments d m ≡ m
unfolding live_segments
all_live d m all = ap as_map (all_kept (is_live_entry d) (map.entries m) all) ∙ map.same_entries_map _ _ (entries-as_map (map.entries m) (map.entries_sorted m))

-- and where nothing is left out of the state each batch has a live row
pub none_dropped : (d : Rows) (m : Segments) → rows_in (live_segments d m) ≡ rows_in m → list_all (is_live_entry d) (map.entries m) ≡ true
unfolding live_segments
none_dropped d m same =
    let es : List Entry = map.entries m in
    let p : Entry → Bool = is_live_entry d in
    kept_all p es (omega (arith, len-as_map (filter p es) (Sorted-filter p es (map.entries_sorted m)), map.len-entries m, sym (len-rows_in (as_map (filter p es))) ∙ ap map.len same ∙ len-rows_in m))

abbrev Names : Type 0
Names = set.FinSet name_cmp

drop_here : (es : List Entry) (i : ℕ) (e : Entry) → i < length es → e ≡ get_or es i e → drop i es ≡ e ∷ drop (i + 1) es
drop_here [] i e below is = absurd (omega (arith, below))
drop_here (x ∷ es) zero e below is = ap (λ (y : Entry). y ∷ es) (sym is)
drop_here (x ∷ es) (suc i) e below is =
    let more : suc (i + 1) ≡ suc i + 1 = omega arith in
    drop_here es i e (omega (arith, below)) is ∙ ap (λ (n : ℕ). e ∷ drop n (x ∷ es)) more

or_turned : (a b c : Bool) → ((a || b) || c) ≡ (b || (a || c))
or_turned true true c = refl
or_turned true false c = refl
or_turned false b c = refl

-- one batch's name is taken over from those of what is left to the names so far, where it has a live row
pub named_live : (d : Rows) (es : List Entry) (i : ℕ) (e : Entry) (names new : Names) → i < length es → e ≡ get_or es i e → new ≡ cond (is_live_entry d e) (set.insert names e.0) names → (q : BatchName)
    → (set.contains new q || is_some (map.find name_cmp q (live_entries d (drop (i + 1) es)))) ≡ (set.contains names q || is_some (map.find name_cmp q (live_entries d (drop i es))))
named_live d es i e names new below is more q =
    let left : List Entry = live_entries d (drop (i + 1) es) in
    elim (is_live_entry d e) as (λ b. new ≡ cond b (set.insert names e.0) names → (set.contains new q || is_some (map.find name_cmp q left)) ≡ (set.contains names q || is_some (map.find name_cmp q (cond b (e ∷ left) left)))) [
      | true ↦ λ added.
          ap (λ (s : Names). set.contains s q || is_some (map.find name_cmp q left)) added
          ∙ ap (λ b. b || is_some (map.find name_cmp q left)) (set.contains-insert names_total names e.0 q)
          ∙ or_turned (eq_by_cmp name_cmp q e.0) (set.contains names q) (is_some (map.find name_cmp q left))
          ∙ ap (λ b. set.contains names q || b) (sym (some_cond (eq_by_cmp name_cmp q e.0) e.1 (map.find name_cmp q left)))
      | false ↦ λ kept. ap (λ (s : Names). set.contains s q || is_some (map.find name_cmp q left)) kept
    ] more
    ∙ ap (λ (xs : List Entry). set.contains names q || is_some (map.find name_cmp q (live_entries d xs))) (sym (drop_here es i e below is))

-- each batch has a live row where each of both parts has
pub both_live : (d : Rows) (es fs : List Entry) (m : Segments) (a b : Bool) → Sorted (es ++ fs) → as_map (es ++ fs) ≡ m → a ≡ list_all (is_live_entry d) es → b ≡ list_all (is_live_entry d) fs → (a && b) ≡ list_all (is_live_entry d) (map.entries m)
both_live d es fs m a b sorted is first second =
    (λ i. first i && second i) ∙ sym (list_all-append (is_live_entry d) es fs) ∙ ap (list_all (is_live_entry d)) (sym (entries-as_map (es ++ fs) sorted) ∙ ap map.entries is)

-- what holds of each of both parts' batches
pub all_front : (P : Entry → Type 0) (es fs : List Entry) → All P (es ++ fs) → All P es
all_front P es fs all = λ k d below. subst P (get_or_append_left es fs d k below) (all k d (omega (arith, below, length-append es fs)))

pub all_back : (P : Entry → Type 0) (es fs : List Entry) → All P (es ++ fs) → All P fs
all_back P es fs all = λ k d below. subst P (get_or-append-add es fs k d) (all (length es + k) d (omega (arith, below, length-append es fs)))

pub all_parts : (P : Entry → Type 0) (es fs : List Entry) (m : Segments) → Sorted (es ++ fs) → as_map (es ++ fs) ≡ m → All P (map.entries m) → All P (es ++ fs)
all_parts P es fs m sorted is all = subst (All P) (ap map.entries (sym is) ∙ entries-as_map (es ++ fs) sorted) all

-- the names of both parts' batches that have a live row
pub names_both : (d : Rows) (es fs seen later : List Entry) (none one two : Names) → none ≡ set.empty → seen ≡ es → later ≡ fs
    → ((q : BatchName) → set.contains one q ≡ (set.contains none q || is_some (map.find name_cmp q (live_entries d seen))))
    → ((q : BatchName) → set.contains two q ≡ (set.contains one q || is_some (map.find name_cmp q (live_entries d later))))
    → (q : BatchName) → set.contains two q ≡ (is_some (map.find name_cmp q (live_entries d es)) || is_some (map.find name_cmp q (live_entries d fs)))
names_both d es fs seen later none one two empty first second in_one in_two q =
    let begun : set.contains one q ≡ is_some (map.find name_cmp q (live_entries d seen)) =
    in_one q ∙ ap (λ (b : Bool). b || is_some (map.find name_cmp q (live_entries d seen))) (ap (λ (s : Names). set.contains s q) empty ∙ set.contains-empty name_cmp q) in
    in_two q
    ∙ ap (λ (b : Bool). b || is_some (map.find name_cmp q (live_entries d later))) begun
    ∙ (λ i. is_some (map.find name_cmp q (live_entries d (first i))) || is_some (map.find name_cmp q (live_entries d (second i))))

-- batches that a store holds have proper names
pub all_proper : (t : Table) (m : Segments) → AreStored t m → All HasProperName (map.entries m)
all_proper t m stored = λ k d below. (All-stored t m stored k d below).proper

module _ (t : Table) (own : Origin) (m : Segments) (d : Rows) where
  abbrev state : State
  state = record { batches = rows_in m; deleted = d }

  abbrev replica : Replica
  replica = record { schema = t; own = own; state = state }

  left_is : (new : Segments) → new ≡ live_segments d m → forgotten state ≡ record { batches = rows_in new; deleted = d }
  left_is new is = same_states (forgotten state) (record { batches = rows_in new; deleted = d }) (sym (rows_in-live m d) ∙ ap rows_in (sym is)) (deleted-forgotten state)

  -- what the replica is then
  pub acts_after : (new : Segments) → new ≡ live_segments d m → forgotten_batches replica ≡ Ok (tt, record { schema = t; own = own; state = record { batches = rows_in new; deleted = d } })
  acts_after new is = λ i. let made : Result (Unit {0} × Replica) Refusal = Ok (tt, record { schema = t; own = own; state = left_is new is i }) in made

  -- where each batch has a live row it stays as it is
  pub acts_same : list_all (is_live_entry d) (map.entries m) ≡ true → forgotten_batches replica ≡ Ok (tt, replica)
  acts_same all = acts_after m (sym (all_live d m all))

  pub live_after : (new : Segments) → new ≡ live_segments d m → live_rows (record { batches = rows_in new; deleted = d }) ≡ live_rows state
  live_after new is = ap live_rows (sym (left_is new is)) ∙ live (forgotten state) state (forgets state)

  pub idle_live : forgotten state ≡ state → list_all (is_live_entry d) (map.entries m) ≡ true
  idle_live same = none_dropped d m (rows_in-live m d ∙ ap (λ (s : State). s.batches) same)
