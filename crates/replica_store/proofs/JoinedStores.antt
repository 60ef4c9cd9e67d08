-- Two stores that agree are joined with a third one by joining it to the second.
use Rattle.std.specs.Prelude.{◌≡◌, ◌⊎◌, ◌≤◌, ◌+◌, ◌==◌, length, Bool, true, false, cond, ◌||◌, T, List, [], ◌∷◌, Option, Some, None, Ok, Err, is_ok, IsOk, IfOk, Result}
use Rattle.std.proofs.Common.{refl, sym, ap, subst, ◌∙◌, arith, inl, inr}
use Rattle.std.specs.FinMap as map
use Rattle.std.specs.FinSet as set
use Rattle.table_model.specs.Name.{name_cmp, row_name_cmp}
use Rattle.table_model.specs.State.{State, Batch, Agree, union_of, join}
use Rattle.table_model.specs.declared.names.BatchName.{BatchName}
use Rattle.table_model.specs.State.{empty_state}
use Rattle.table_model.specs.Table.{Table}
use Rattle.table_model.specs.Outcome.{Gives, unless}
use Rattle.table_model.specs.Reading.{Reads}
use Rattle.table_model.specs.declared.names.Origin.{Origin}
use Rattle.table_model.specs.declared.refusal.Refusal.{Refusal}
use Rattle.table_model.specs.declared.refusal.Refusal.TheVariants.{BadName}
use Rattle.table_model.proofs.NameOrder.{row_names_total, exact_row_names}
use Rattle.table_model.proofs.Joins.{or_else, get-union, same_maps, same_states, join-associative}
use Rattle.segment_core.specs.Segment.{SegmentForm}
use Rattle.replica_store.specs.Replica.{Replica, new_replica, with_join, merged, merge_fault, unless_fault, batch_limit, names_of, lacked_by}
use Rattle.replica_store.specs.MergeLaws.{Merges}
use Rattle.replica_store.specs.Segments.{StoreForm, Entry, rows_in}
use Rattle.replica_store.specs.Joined.{joined_stores, AreJoined}
use Rattle.replica_store.proofs.MergeAnswers.{is_merge, merges}
use Rattle.replica_store.proofs.Limits.{same_Ok}
use Rattle.replica_store.proofs.Maps.{as_map}
use Rattle.replica_store.proofs.Merges.{len-union, union-same, map_of_entries}

either : {X : Type 0} (a b : Option X) (x : X) → or_else a b ≡ Some x → (a ≡ Some x) ⊎ (b ≡ Some x)
either None b x e = inr e
either (Some v) b x e = inl e

-- what agrees with both agrees with their join
pub agree_joined : (s t u : State) → Agree s u → Agree t u → Agree (join s t) u
agree_joined s t u one other name a b has at = of (either (map.get s.batches name) (map.get t.batches name) a (sym (get-union s.batches t.batches name) ∙ has))
  where
    of : (map.get s.batches name ≡ Some a) ⊎ (map.get t.batches name ≡ Some a) → a ≡ b
    of (inl e) = one name a b e at
    of (inr e) = other name a b e at

pub agree_back : (s t : State) → Agree s t → Agree t s
agree_back s t agree name a b has at = sym (agree name b a at has)

length-lacked : {X : Type 0} (names : set.FinSet name_cmp) (es : List (BatchName × X)) → length (lacked_by names es) ≤ length es
length-lacked names [] = omega arith
length-lacked names (e ∷ es) =
    let rest = length-lacked names es in
    elim (set.contains names e.0) as (λ b. length (cond b (lacked_by names es) (e ∷ lacked_by names es)) ≤ length (e ∷ es)) [
      | true ↦ omega (arith, rest)
      | false ↦ omega (arith, rest)
    ]

-- a union has no more entries than both maps
pub len-sum : {X : Type 0} (m n : map.FinMap name_cmp X) → map.len (union_of m n) ≤ map.len m + map.len n
len-sum m n =
    let all = len-union m n in
    let few = length-lacked (names_of m) (map.entries n) in
    let count = map.len-entries n in
    omega (arith, all, few, count)

-- a merge that is not refused makes the join
unrefused : {X : Type 0} (o : Option Refusal) (x : X) → IsOk {E = Refusal} (unless_fault o (Ok x)) → unless_fault o (Ok x) ≡ Ok x
unrefused None x h = refl
unrefused (Some fault) x h = cc

pub ok_merges : (r other : Replica) → IsOk (merged r other) → Merges r other (with_join r other)
ok_merges r other ok = unrefused (merge_fault r other) (tt, with_join r other) ok

-- what both merge with, and has few enough batches, merges with their join
pub joined_merges : (base recent other : Replica) → recent.schema ≡ base.schema → IsOk (merged base other) → IsOk (merged recent other)
    → map.len base.state.batches + map.len recent.state.batches + map.len other.state.batches ≤ batch_limit → Merges (with_join base recent) other (with_join (with_join base recent) other)
joined_merges base recent other schema first second limit =
    let one = is_merge base other (with_join base other) (ok_merges base other first) in
    let two = is_merge recent other (with_join recent other) (ok_merges recent other second) in
    let most = len-sum (union_of base.state.batches recent.state.batches) other.state.batches in
    let both = len-sum base.state.batches recent.state.batches in
    merges (with_join base recent) other one.schema (agree_joined base.state recent.state other.state one.agree two.agree) (omega (arith, most, both, limit))

-- two that are joined merge
pub parts_merge : (base recent : StoreForm) → AreJoined base recent → Merges base.replica recent.replica (with_join base.replica recent.replica)
parts_merge base recent are =
    let both = len-sum base.replica.state.batches recent.replica.state.batches in
    merges base.replica recent.replica (sym are.schema) are.agree (omega (arith, both, are.limit))

-- and what comes to the second comes to the join
pub joined_next : (base recent other next : StoreForm) → AreJoined base recent → IsOk (merged base.replica other.replica) → IsOk (merged recent.replica other.replica)
    → map.len base.replica.state.batches + map.len recent.replica.state.batches + map.len other.replica.state.batches ≤ batch_limit → merged recent.replica other.replica ≡ Ok (tt, next.replica)
    → (AreJoined base next) × (merged (joined_stores base recent).replica other.replica ≡ Ok (tt, (joined_stores base next).replica))
joined_next base recent other next are first second limit made =
    let one = is_merge base.replica other.replica (with_join base.replica other.replica) (ok_merges base.replica other.replica first) in
    let two = is_merge recent.replica other.replica next.replica made in
    let few = len-sum recent.replica.state.batches other.replica.state.batches in
    let apart : AreJoined base (record { replica = with_join recent.replica other.replica; segments = next.segments }) = record {
      schema = are.schema;
      own = are.own;
      agree = agree_back (join recent.replica.state other.replica.state) base.replica.state (agree_joined recent.replica.state other.replica.state base.replica.state (agree_back base.replica.state recent.replica.state are.agree) (agree_back base.replica.state other.replica.state one.agree));
      limit = omega (arith, few, limit);
    } in
    let bracketed : with_join (with_join base.replica recent.replica) other.replica ≡ with_join base.replica (with_join recent.replica other.replica) =
    λ i. record { schema = base.replica.schema; own = base.replica.own; state = join-associative base.replica.state recent.replica.state other.replica.state i } in (
      subst (λ (r : Replica). AreJoined base (record { replica = r; segments = next.segments })) two.made apart,
      joined_merges base.replica recent.replica other.replica are.schema first second limit
          ∙ ap (λ (r : Replica). let ok : Result (Unit {0} × Replica) Refusal = Ok (tt, r) in ok) (bracketed ∙ ap (with_join base.replica) two.made),
    )

or_else-associative : {X : Type 0} (a b c : Option X) → or_else (or_else a b) c ≡ or_else a (or_else b c)
or_else-associative None b c = refl
or_else-associative (Some x) b c = refl

pub union-associative : {X : Type 0} (m n o : map.FinMap name_cmp X) → union_of (union_of m n) o ≡ union_of m (union_of n o)
union-associative m n o = same_maps _ _ (λ q.
    get-union (union_of m n) o q
    ∙ ap (λ a. or_else a (map.get o q)) (get-union m n q)
    ∙ or_else-associative (map.get m q) (map.get n q) (map.get o q)
    ∙ sym (get-union m (union_of n o) q ∙ ap (or_else (map.get m q)) (get-union n o q)))

pub union-empty : {X : Type 0} (m : map.FinMap name_cmp X) → union_of m map.empty ≡ m
union-empty {X} m =
    let none : map.len {X = X} (map.empty {R = name_cmp}) ≡ 0 = map.len-empty name_cmp X in
    let most = len-sum m (map.empty {X = X} {R = name_cmp}) in
    union-same m map.empty (omega (arith, none, most))

or_none : (b : Bool) → (b || false) ≡ b
or_none true = refl
or_none false = refl

pub new_is : (t : Table) (o : Origin) (r : Replica) → new_replica t o ≡ Ok r → r ≡ record { schema = t; own = o; state = empty_state }
new_is t o r e =
    let made : Replica = record { schema = t; own = o; state = empty_state } in
    elim (o.0 == 0) as (λ b. cond b (Err BadName) (Ok made) ≡ Ok r → r ≡ made) [
      | true ↦ λ h. cc
      | false ↦ λ h. sym (same_Ok made r h)
    ] e

-- with a new store a store is joined to itself
pub joined_new : (base recent : StoreForm) (t : Table) (o : Origin) → t ≡ base.replica.schema → o ≡ base.replica.own → new_replica t o ≡ Ok recent.replica → recent.segments ≡ map.empty
    → map.len base.replica.state.batches ≤ batch_limit → (AreJoined base recent) × (joined_stores base recent ≡ base)
joined_new base recent t o schema own new segments limit =
    let is = new_is t o recent.replica new in
    let none : recent.replica.state.batches ≡ map.empty = ap (λ (r : Replica). r.state.batches) is in
    let lives : recent.replica.state.deleted ≡ set.empty = ap (λ (r : Replica). r.state.deleted) is in
    let count : map.len recent.replica.state.batches ≡ 0 = ap map.len none ∙ map.len-empty name_cmp Batch in
    let deleted : set.union base.replica.state.deleted recent.replica.state.deleted ≡ base.replica.state.deleted =
    ap (set.union base.replica.state.deleted) lives
    ∙ set.same_set row_names_total exact_row_names _ _ (λ q.
    set.contains-union row_names_total base.replica.state.deleted set.empty q ∙ ap (λ b. set.contains base.replica.state.deleted q || b) (set.contains-empty row_name_cmp q) ∙ or_none (set.contains base.replica.state.deleted q)) in
    let state : join base.replica.state recent.replica.state ≡ base.replica.state =
    same_states _ _ (ap (union_of base.replica.state.batches) none ∙ union-empty base.replica.state.batches) deleted in
    let whole : union_of base.segments recent.segments ≡ base.segments = ap (union_of base.segments) segments ∙ union-empty base.segments in (
      record {
        schema = ap (λ (r : Replica). r.schema) is ∙ schema;
        own = ap (λ (r : Replica). r.own) is ∙ own;
        agree = λ name a b has at. let no : map.get recent.replica.state.batches name ≡ None = ap (λ (m : map.FinMap name_cmp Batch). map.get m name) none ∙ map.get-empty name_cmp name in cc;
        limit = omega (arith, count, limit);
      },
      λ i. record { replica = record { schema = base.replica.schema; own = base.replica.own; state = state i }; segments = whole i },
    )

-- what is made level has what was made
pub levelled_reads : (result : Result StoreForm Refusal) (made : StoreForm) (given : Result (Unit {0} × Replica) Refusal) → Gives (λ (s : StoreForm). s) result (Ok made) → given ≡ Ok (tt, made.replica)
    → Reads {Y = Unit {0} × Replica} (λ (s : StoreForm). (tt, s.replica)) result given
levelled_reads (Ok s) made given is e = e ∙ ap (λ (x : StoreForm). let ok : Result (Unit {0} × Replica) Refusal = Ok (tt, x.replica) in ok) (same_Ok made s is)
levelled_reads (Err e) made given (inl other) h = let bad : ⊥ = cc in absurd bad
levelled_reads (Err e) made given (inr lack) h = inr lack.0

pub levelled_segments : (result : Result StoreForm Refusal) (made : StoreForm) (given : map.FinMap name_cmp SegmentForm) → Gives (λ (s : StoreForm). s) result (Ok made) → made.segments ≡ given → IfOk result (λ s. s.segments ≡ given)
levelled_segments (Ok s) made given is e = sym (ap (λ (x : StoreForm). x.segments) (same_Ok made s is)) ∙ e
levelled_segments (Err e) made given is h = tt

-- the entries of a map are it
pub whole : (m : map.FinMap name_cmp SegmentForm) (es : List Entry) → es ≡ map.entries m → as_map es ≡ m
whole m es is = ap as_map is ∙ map_of_entries m

pub in_order : (m : map.FinMap name_cmp SegmentForm) (es : List Entry) → es ≡ map.entries m → T (map.is_sorted name_cmp es)
in_order m es is = subst (λ (xs : List Entry). T (map.is_sorted name_cmp xs)) (sym is) (map.entries_sorted m)

-- the state's batches are their rows
pub rows_are : (s : StoreForm) (m : map.FinMap name_cmp SegmentForm) (es : List Entry) → s.replica.state.batches ≡ rows_in m → es ≡ map.entries m → s.replica.state.batches ≡ rows_in (as_map es)
rows_are s m es rows is = rows ∙ ap rows_in (sym (whole m es is))

pub ok_same : {X : Type 0} (o : Option Refusal) (x : X) → is_ok (unless o) ≡ is_ok (unless_fault o (Ok x))
ok_same None x = refl
ok_same (Some fault) x = refl
