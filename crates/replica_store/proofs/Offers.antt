-- The batches whose names a set lacks: of a list in order, of a map, and of the rows of its segments.
use Rattle.std.specs.Prelude.{◌≡◌, ℕ, zero, suc, ◌<◌, ◌≤◌, ◌+◌, ◌||◌, Bool, true, false, cond, not, List, [], ◌∷◌, length, Option, None, is_some, drop}
use Rattle.std.proofs.Common.{refl, sym, ap, ◌∙◌, arith, get_or}
use Rattle.std.proofs.lemmas.List.{drop_all}
use Rattle.std.specs.List.{All}
use Rattle.std.specs.Option.{option_map}
use Rattle.std.specs.Ordering.{eq_by_cmp}
use Rattle.std.specs.FinMap as map
use Rattle.std.specs.FinSet as set
use Rattle.std.proofs.Math.Bool.{or-false}
use Rattle.table_model.proofs.Joins.{same_maps}
use Rattle.table_model.specs.Name.{name_cmp}
use Rattle.table_model.specs.State.{Batch}
use Rattle.table_model.specs.Table.{Table}
use Rattle.table_model.specs.declared.names.BatchName.{BatchName}
use Rattle.table_model.proofs.NameOrder.{names_total, exact_names}
use Rattle.catalogue_join.specs.Held.{lacks}
use Rattle.segment_core.specs.Segment.{SegmentForm}
use Rattle.replica_store.specs.Replica.{lacked_by, names_of, batch_limit}
use Rattle.replica_store.specs.Segments.{Entry, IsStored, AreStored, rows_in}
use Rattle.replica_store.specs.Exchange.{AreOffered, unlisted}
use Rattle.replica_store.proofs.Maps.{Sorted, as_map, get-as_map}
use Rattle.replica_store.proofs.Merges.{Sorted-lacked, find-lacked}
use Rattle.replica_store.proofs.Names.{contains-names_of, some_cond}
use Rattle.replica_store.proofs.RowsIn.{rows, get-rows_in}
use Rattle.replica_store.proofs.Stored.{All-stored}

module _ {X : Type 0} where
  -- a batch is unlisted where its name isn't listed
  pub get-unlisted : (names : set.FinSet name_cmp) (m : map.FinMap name_cmp X) (q : BatchName) → map.get (unlisted names m) q ≡ cond (set.contains names q) None (map.get m q)
  unfolding unlisted
  get-unlisted names m q =
      map.get-retain_keys m (lacks names) q (λ x tied. ap not (set.contains_tied names_total names q x tied))
      ∙ turned (set.contains names q) (map.get m q)
    where
      turned : (b : Bool) (o : Option X) → cond (not b) o None ≡ cond b None o
      turned true o = refl
      turned false o = refl

  -- what a list of entries in order lacks of the names is the map of what isn't listed
  pub as_map-lacked : (names : set.FinSet name_cmp) (m : map.FinMap name_cmp X) → as_map (lacked_by names (map.entries m)) ≡ unlisted names m
  as_map-lacked names m = same_maps _ _ (λ q.
      get-as_map (lacked_by names (map.entries m)) q (Sorted-lacked names (map.entries m) (map.entries_sorted m))
      ∙ find-lacked names q (map.entries m)
      ∙ ap (λ (o : Option X). cond (set.contains names q) None o) (sym (map.get-entries m q))
      ∙ sym (get-unlisted names m q))

  length-lacked : (names : set.FinSet name_cmp) (es : List (BatchName × X)) → length (lacked_by names es) ≤ length es
  length-lacked names [] = omega arith
  length-lacked names (e ∷ es) =
      let rest = length-lacked names es in
      elim (set.contains names e.0) as (λ b. length (cond b (lacked_by names es) (e ∷ lacked_by names es)) ≤ suc (length es)) [ true ↦ omega (arith, rest) | false ↦ omega (arith, rest) ]

pub rows_in-unlisted : (names : set.FinSet name_cmp) (m : map.FinMap name_cmp SegmentForm) → rows_in (unlisted names m) ≡ unlisted names (rows_in m)
rows_in-unlisted names m = same_maps _ _ (λ q.
    get-rows_in (unlisted names m) q
    ∙ ap (option_map rows) (get-unlisted names m q)
    ∙ inside (set.contains names q) (map.get m q)
    ∙ ap (λ (o : Option Batch). cond (set.contains names q) None o) (sym (get-rows_in m q))
    ∙ sym (get-unlisted names (rows_in m) q))
  where
    inside : (b : Bool) (o : Option SegmentForm) → option_map rows (cond b None o) ≡ cond b None (option_map rows o)
    inside true o = refl
    inside false o = refl

all_tail : (t : Table) (e : Entry) (es : List Entry) → All (IsStored t) (e ∷ es) → All (IsStored t) es
all_tail t e es all = λ k d below. all (suc k) d (omega (arith, below))

-- one entry more
all_more : (t : Table) (e : Entry) (es : List Entry) → IsStored t e → All (IsStored t) es → All (IsStored t) (e ∷ es)
all_more t e es here all = λ k d below. at k d below
  where
    at : (k : ℕ) (d : Entry) → k < length (e ∷ es) → IsStored t (get_or (e ∷ es) k d)
    at zero d below = here
    at (suc k) d below = all k d (omega (arith, below))

All-lacked : (t : Table) (names : set.FinSet name_cmp) (es : List Entry) → All (IsStored t) es → All (IsStored t) (lacked_by names es)
All-lacked t names [] all = all
All-lacked t names (e ∷ es) all =
    let rest = All-lacked t names es (all_tail t e es all) in
    elim (set.contains names e.0) as (λ b. All (IsStored t) (cond b (lacked_by names es) (e ∷ lacked_by names es))) [
      | true ↦ rest
      | false ↦ all_more t e (lacked_by names es) (all 0 e (omega arith)) rest
    ]

-- what is left of an offer may be offered
pub AreOffered-kept : (t : Table) (names : set.FinSet name_cmp) (es : List Entry) → AreOffered t es → AreOffered t (lacked_by names es)
AreOffered-kept t names es offered = record {
  sorted = Sorted-lacked names es offered.sorted;
  limit = omega (arith, offered.limit, length-lacked names es);
  stored = All-lacked t names es offered.stored;
}

-- what a store holds beside the names may be offered
pub AreOffered-lacked : (t : Table) (names : set.FinSet name_cmp) (m : map.FinMap name_cmp SegmentForm) → AreStored t m → map.len m ≤ batch_limit → AreOffered t (lacked_by names (map.entries m))
AreOffered-lacked t names m stored limit = record {
  sorted = Sorted-lacked names (map.entries m) (map.entries_sorted m);
  limit = omega (arith, limit, map.len-entries m, length-lacked names (map.entries m));
  stored = All-lacked t names (map.entries m) (All-stored t m stored);
}

abbrev Names : Type 0
Names = set.FinSet name_cmp

drop_here : (es : List Entry) (i : ℕ) (e : Entry) → i < length es → e ≡ get_or es i e → drop i es ≡ e ∷ drop (i + 1) es
drop_here [] i e below is = absurd (omega (arith, below))
drop_here (x ∷ es) zero e below is = ap (λ (y : Entry). y ∷ es) (sym is)
drop_here (x ∷ es) (suc i) e below is =
    let more : suc (i + 1) ≡ suc i + 1 = omega arith in
    drop_here es i e (omega (arith, below)) is ∙ ap (λ (n : ℕ). e ∷ drop n (x ∷ es)) more

or_turned : (a b c : Bool) → ((a || b) || c) ≡ (b || (a || c))
or_turned true true c = refl
or_turned true false c = refl
or_turned false b c = refl

-- one name more is named among the names, and no more among what is left
pub named_more : (es : List Entry) (i : ℕ) (e : Entry) (names new : Names) → i < length es → e ≡ get_or es i e → new ≡ set.insert names e.0 → (q : BatchName)
    → (set.contains new q || is_some (map.find name_cmp q (drop (i + 1) es))) ≡ (set.contains names q || is_some (map.find name_cmp q (drop i es)))
named_more es i e names new below is more q =
    let left : List Entry = drop (i + 1) es in
    ap (λ (s : Names). set.contains s q || is_some (map.find name_cmp q left)) more
    ∙ ap (λ b. b || is_some (map.find name_cmp q left)) (set.contains-insert names_total names e.0 q)
    ∙ or_turned (eq_by_cmp name_cmp q e.0) (set.contains names q) (is_some (map.find name_cmp q left))
    ∙ ap (λ b. set.contains names q || b) (sym (ap (λ (xs : List Entry). is_some (map.find name_cmp q xs)) (drop_here es i e below is) ∙ some_cond (eq_by_cmp name_cmp q e.0) e.1 (map.find name_cmp q left)))

-- where nothing is left, the names are those of the map
pub named_all : (es : List Entry) (i : ℕ) (names : Names) → Sorted es → length es ≤ i → ((q : BatchName) → (set.contains names q || is_some (map.find name_cmp q (drop i es))) ≡ is_some (map.find name_cmp q es)) → names ≡ names_of (as_map es)
named_all es i names sorted past all = set.same_set names_total exact_names _ _ (λ q.
    sym (or-false (set.contains names q))
    ∙ ap (λ (xs : List Entry). set.contains names q || is_some (map.find name_cmp q xs)) (sym (drop_all i es past))
    ∙ all q
    ∙ ap is_some (sym (get-as_map es q sorted))
    ∙ sym (contains-names_of (as_map es) q))
