-- What an offer brings to a store that is only read: with what is held it is the join, and there are few enough batches.
use Rattle.std.specs.Prelude.{◌≡◌, ◌+◌, ◌≤◌, ◌||◌, Bool, true, false, cond, List, length, Option, Some, None, is_some, Ok}
use Rattle.std.proofs.Common.{refl, sym, ap, subst, ◌∙◌, arith}
use Rattle.std.specs.List.{All}
use Rattle.std.specs.FinMap as map
use Rattle.std.specs.FinSet as set
use Rattle.table_model.specs.Name.{name_cmp, row_name_cmp}
use Rattle.table_model.specs.Outcome.{unless}
use Rattle.table_model.specs.State.{State, Batch, Agree, union_of, join, empty_state}
use Rattle.table_model.specs.Table.{Table}
use Rattle.table_model.specs.declared.names.BatchName.{BatchName}
use Rattle.table_model.proofs.Joins.{or_else, get-union, same_maps, same_states, join-associative, join-commutative}
use Rattle.table_model.proofs.NameOrder.{row_names_total, exact_row_names}
use Rattle.replica_store.specs.Brought.{AreApart, IsBrought, unheld_state}
use Rattle.replica_store.specs.Exchange.{OfferForm, AreOffered, unlisted, unlisted_state}
use Rattle.replica_store.specs.Replica.{Replica, batch_limit, conflict_with, joined_with, lacked_by, merge_fault, names_of, new_replica, replica_with, with_join}
use Rattle.replica_store.specs.Segments.{Entry, Segments, StoreForm, HasProperName, AreStored, conflict_in, rows_entries, rows_in}
use Rattle.replica_store.proofs.JoinedStores.{new_is, union-empty}
use Rattle.replica_store.proofs.Joining.{mergeable}
use Rattle.replica_store.proofs.Maps.{as_map, len-as_map}
use Rattle.replica_store.proofs.Merges.{Sorted-lacked, len-union}
use Rattle.replica_store.proofs.Names.{contains-names_of, names_of-union}
use Rattle.replica_store.proofs.Offers.{AreOffered-kept, as_map-lacked, get-unlisted, rows_in-unlisted}
use Rattle.replica_store.proofs.RowsIn.{conflict-rows, entries-rows_in, len-rows_in, rows_in-union}
use Rattle.replica_store.proofs.Stored.{AreStored-all}

abbrev Rows : Type 0
Rows = map.FinMap name_cmp Batch

-- ---- the join

or_unheld : (a b c : Option Batch) → or_else (or_else a b) c ≡ or_else a (or_else b (cond (is_some a) None c))
or_unheld None b c = refl
or_unheld (Some x) b c = refl

-- a union with what a third one brings to the first of two
pub union_brought : (h o f : Rows) → union_of (union_of h o) f ≡ union_of h (union_of o (unlisted (names_of h) f))
union_brought h o f = same_maps _ _ (λ q.
    get-union (union_of h o) f q
    ∙ ap (λ (a : Option Batch). or_else a (map.get f q)) (get-union h o q)
    ∙ or_unheld (map.get h q) (map.get o q) (map.get f q)
    ∙ ap (λ (b : Bool). or_else (map.get h q) (or_else (map.get o q) (cond b None (map.get f q)))) (sym (contains-names_of h q))
    ∙ ap (λ (a : Option Batch). or_else (map.get h q) (or_else (map.get o q) a)) (sym (get-unlisted (names_of h) f q))
    ∙ ap (or_else (map.get h q)) (sym (get-union o (unlisted (names_of h) f) q))
    ∙ sym (get-union h (union_of o (unlisted (names_of h) f)) q))

-- and so the state that is held, joined with what was brought and then with more, is joined with both
pub join_brought : (h o s : State) → join (join h o) s ≡ join h (join o (unlisted_state (names_of h.batches) s))
join_brought h o s = same_states _ _ (union_brought h.batches o.batches s.batches) (ap (λ (x : State). x.deleted) (join-associative h o s))

pub with_brought : (held own new : Replica) (s : State) → new ≡ joined_with own (unheld_state held s) → joined_with (with_join held own) s ≡ with_join held new
with_brought held own new s is =
    (λ i. record { schema = held.schema; own = held.own; state = join_brought held.state own.state s i })
    ∙ ap (with_join held) (sym is)

or_lost : (a c : Option Batch) → or_else a (cond (is_some a) None c) ≡ or_else a c
or_lost None c = refl
or_lost (Some x) c = refl

-- what is held, joined with what a state brings to it, is joined with the state
pub join_unheld : (held : Replica) (s : State) → join held.state (unheld_state held s) ≡ join held.state s
join_unheld held s =
    let names = names_of held.state.batches in
    same_states _ _
    (same_maps _ _ (λ q.
    get-union held.state.batches (unlisted names s.batches) q
    ∙ ap (or_else (map.get held.state.batches q)) (get-unlisted names s.batches q ∙ ap (λ (b : Bool). cond b None (map.get s.batches q)) (contains-names_of held.state.batches q))
    ∙ or_lost (map.get held.state.batches q) (map.get s.batches q)
    ∙ sym (get-union held.state.batches s.batches q)))
    refl

both_unlisted : (b : Bool) (x y : Option Batch) → or_else (cond b None x) (cond b None y) ≡ cond b None (or_else x y)
both_unlisted true x y = refl
both_unlisted false x y = refl

-- what two states bring is what their join brings
pub unheld_join : (held : Replica) (s t : State) → join (unheld_state held s) (unheld_state held t) ≡ unheld_state held (join s t)
unheld_join held s t =
    let names = names_of held.state.batches in
    same_states _ _
    (same_maps _ _ (λ q.
    get-union (unlisted names s.batches) (unlisted names t.batches) q
    ∙ (λ i. or_else (get-unlisted names s.batches q i) (get-unlisted names t.batches q i))
    ∙ both_unlisted (set.contains names q) (map.get s.batches q) (map.get t.batches q)
    ∙ ap (λ (o : Option Batch). cond (set.contains names q) None o) (sym (get-union s.batches t.batches q))
    ∙ sym (get-unlisted names (union_of s.batches t.batches) q)))
    refl

listed_none : (b : Bool) (o : Option Batch) → o ≡ None → cond b None o ≡ o
listed_none true o none = sym none
listed_none false o none = refl

-- nothing brings nothing
pub unheld_nothing : (held : Replica) → unheld_state held empty_state ≡ empty_state
unheld_nothing held =
    let names = names_of held.state.batches in
    same_states _ _
    (same_maps _ _ (λ q. get-unlisted names map.empty q ∙ listed_none (set.contains names q) (map.get map.empty q) (map.get-empty name_cmp q)))
    refl

or_nothing : (b : Bool) → (b || false) ≡ b
or_nothing true = refl
or_nothing false = refl

-- a join with nothing
pub join_nothing : (s : State) → join s empty_state ≡ s
join_nothing s = same_states _ _ (union-empty s.batches)
    (set.same_set row_names_total exact_row_names _ _ (λ q.
    set.contains-union row_names_total s.deleted set.empty q
    ∙ ap (λ b. set.contains s.deleted q || b) (set.contains-empty row_name_cmp q)
    ∙ or_nothing (set.contains s.deleted q)))

agree_nothing : (s : State) → Agree s empty_state
agree_nothing s name a b has at = let none : map.get {X = Batch} (map.empty {R = name_cmp}) name ≡ None = map.get-empty name_cmp name in let lost : None ≡ Some b = sym none ∙ at in cc

pub nothing_join : (s : State) → join empty_state s ≡ s
nothing_join s = sym (join-commutative s empty_state (agree_nothing s)) ∙ join_nothing s

-- with nothing that was brought, what is held is all there is
pub held_alone : (held own : Replica) (t : Table) → new_replica t (record { 0 = 1 }) ≡ Ok own → with_join held own ≡ held
held_alone held own t new =
    let none : own.state ≡ empty_state = ap (λ (r : Replica). r.state) (new_is t (record { 0 = 1 }) own new) in
    λ i. record { schema = held.schema; own = held.own; state = (ap (join held.state) none ∙ join_nothing held.state) i }

-- ---- how many batches there are

unlisted_apart : (b : Bool) (o : Option Batch) → (b ≡ true → o ≡ None) → cond b None o ≡ o
unlisted_apart true o none = sym (none refl)
unlisted_apart false o none = refl

held_name : (h o : Rows) (q : BatchName) (a : Option Batch) → AreApart h o → map.get h q ≡ a → is_some a ≡ true → map.get o q ≡ None
held_name h o q None apart is some = cc
held_name h o q (Some rows) apart is some = apart q rows is

-- what is apart is unlisted
pub apart_unlisted : (h o : Rows) → AreApart h o → unlisted (names_of h) o ≡ o
apart_unlisted h o apart = same_maps _ _ (λ q.
    get-unlisted (names_of h) o q
    ∙ unlisted_apart (set.contains (names_of h) q) (map.get o q) (λ there. held_name h o q (map.get h q) apart refl (sym (contains-names_of h q) ∙ there)))

pub len_apart : (h o : Rows) → AreApart h o → map.len (union_of h o) ≡ map.len h + map.len o
len_apart h o apart =
    let lacked = lacked_by (names_of h) (map.entries o) in
    let count : length lacked ≡ map.len o =
    sym (len-as_map lacked (Sorted-lacked (names_of h) (map.entries o) (map.entries_sorted o))) ∙ ap map.len (as_map-lacked (names_of h) o ∙ apart_unlisted h o apart) in
    let all = len-union h o in
    omega (arith, all, count)

none_of_both : (a b c : Option Batch) (n : Bool) → b ≡ None → n ≡ true → or_else b (cond n None c) ≡ None
none_of_both a None c true is there = refl
none_of_both a None c false is there = cc
none_of_both a (Some x) c n is there = cc

-- what was brought, with what is brought by more, is apart
pub apart_next : (h o f : Rows) → AreApart h o → AreApart h (union_of o (unlisted (names_of h) f))
apart_next h o f apart name rows has =
    get-union o (unlisted (names_of h) f) name
    ∙ ap (or_else (map.get o name)) (get-unlisted (names_of h) f name)
    ∙ none_of_both (map.get h name) (map.get o name) (map.get f name) (set.contains (names_of h) name) (apart name rows has) (contains-names_of h name ∙ ap is_some has)

pub len_brought : (h o f : Rows) → AreApart h o → map.len (union_of (union_of h o) f) ≡ map.len h + map.len (union_of o (unlisted (names_of h) f))
len_brought h o f apart = ap map.len (union_brought h o f) ∙ len_apart h (union_of o (unlisted (names_of h) f)) (apart_next h o f apart)

-- what is counted of an offer are the batches that are neither held nor brought
pub count_brought : (held own : StoreForm) (h o : Segments) (f : OfferForm) (es : List Entry) → IsBrought held own → held.replica.state.batches ≡ rows_in h → own.replica.state.batches ≡ rows_in o
    → es ≡ map.entries f.segments → f.state.batches ≡ rows_in f.segments
    → map.len (union_of (union_of held.replica.state.batches own.replica.state.batches) f.state.batches) ≡ (map.len held.replica.state.batches + map.len own.replica.state.batches) + length (lacked_by (set.union (names_of h) (names_of o)) es)
count_brought held own h o f es brought h_is o_is es_is f_is =
    let u : Segments = union_of h o in
    let both : union_of held.replica.state.batches own.replica.state.batches ≡ rows_in u = (λ i. union_of (h_is i) (o_is i)) ∙ sym (rows_in-union h o) in
    let first : map.len u ≡ map.len held.replica.state.batches + map.len own.replica.state.batches =
    sym (len-rows_in u) ∙ ap map.len (sym both) ∙ len_apart held.replica.state.batches own.replica.state.batches brought.apart in
    (λ i. map.len (union_of (both i) (f_is i)))
    ∙ ap map.len (sym (rows_in-union u f.segments))
    ∙ len-rows_in (union_of u f.segments)
    ∙ len-union u f.segments
    ∙ (λ i. first i + length (lacked_by (names_of-union h o i) (sym es_is i)))

-- ---- what is refused

pub conflict_brought : (ours : Rows) (f : OfferForm) (es : List Entry) → es ≡ map.entries f.segments → f.state.batches ≡ rows_in f.segments → conflict_in ours es ≡ conflict_with ours (map.entries f.state.batches)
conflict_brought ours f es es_is f_is = conflict-rows ours es ∙ ap (conflict_with ours) (ap rows_entries es_is ∙ sym (entries-rows_in f.segments) ∙ ap map.entries (sym f_is))

-- an offer that isn't refused is of the same table, and there is room for what it brings
pub record HasRoom (held own : Replica) (f : OfferForm) : Type 0 where
  pub schema : held.schema ≡ f.schema
  pub limit : map.len held.state.batches + map.len (union_of own.state.batches (unlisted (names_of held.state.batches) f.state.batches)) ≤ batch_limit

pub has_room : (held own : StoreForm) (f : OfferForm) (u : Unit {0}) → IsBrought held own → Ok u ≡ unless (merge_fault (with_join held.replica own.replica) (replica_with f.schema f.state.batches)) → HasRoom held.replica own.replica f
has_room held own f u brought is =
    let fine = mergeable (with_join held.replica own.replica) f.schema f.state.batches u is in
    let count = len_brought held.replica.state.batches own.replica.state.batches f.state.batches brought.apart in
    let few = fine.limit in
    record { schema = fine.schema; limit = omega (arith, count, few) }

-- and then what it brings is brought
pub brought_next : (held own new : StoreForm) (f : OfferForm) → IsBrought held own → HasRoom held.replica own.replica f → new.replica ≡ joined_with own.replica (unheld_state held.replica f.state) → IsBrought held new
brought_next held own new f brought room is =
    let batches = ap (λ (r : Replica). r.state.batches) is in
    record {
      schema = ap (λ (r : Replica). r.schema) is ∙ brought.schema;
      apart = subst (AreApart held.replica.state.batches) (sym batches) (apart_next held.replica.state.batches own.replica.state.batches f.state.batches brought.apart);
      limit = subst (λ (m : Rows). map.len held.replica.state.batches + map.len m ≤ batch_limit) (sym batches) room.limit;
    }

-- ---- the entries that are moved

-- the entries that are kept of an offer's
pub kept_is : (names : set.FinSet name_cmp) (f : OfferForm) (es kept : List Entry) → es ≡ map.entries f.segments → kept ≡ lacked_by names es → as_map kept ≡ unlisted names f.segments
kept_is names f es kept es_is by = ap as_map (by ∙ ap (lacked_by names) es_is) ∙ as_map-lacked names f.segments

pub kept_offered : (t : Table) (names : set.FinSet name_cmp) (es kept : List Entry) → AreOffered t es → kept ≡ lacked_by names es → AreOffered t kept
kept_offered t names es kept offered by = subst (AreOffered t) (sym by) (AreOffered-kept t names es offered)

pub kept_rows : (names : set.FinSet name_cmp) (f : OfferForm) (es kept : List Entry) → es ≡ map.entries f.segments → f.state.batches ≡ rows_in f.segments → kept ≡ lacked_by names es → rows_in (as_map kept) ≡ unlisted names f.state.batches
kept_rows names f es kept es_is f_is by = ap rows_in (kept_is names f es kept es_is by) ∙ rows_in-unlisted names f.segments ∙ ap (unlisted names) (sym f_is)

pub kept_proper : (t : Table) (es : List Entry) → AreOffered t es → All HasProperName es
kept_proper t es offered = λ k d below. let here = offered.stored k d below in here.proper

pub kept_stored : (t : Table) (es : List Entry) → AreOffered t es → AreStored t (as_map es)
kept_stored t es offered = AreStored-all t es offered.sorted offered.stored

-- ---- nothing is brought yet

empty_get : (q : BatchName) (m : Rows) → m ≡ map.empty → map.get m q ≡ None
empty_get q m is = ap (λ (n : Rows). map.get n q) is ∙ map.get-empty name_cmp q

pub nothing_brought : (held own : StoreForm) (t : Table) → t ≡ held.replica.schema → new_replica t (record { 0 = 1 }) ≡ Ok own.replica → map.len held.replica.state.batches ≤ batch_limit → IsBrought held own
nothing_brought held own t schema new limit =
    let is = new_is t (record { 0 = 1 }) own.replica new in
    let none : own.replica.state.batches ≡ map.empty = ap (λ (r : Replica). r.state.batches) is in
    let count : map.len own.replica.state.batches ≡ 0 = ap map.len none ∙ map.len-empty name_cmp Batch in
    record {
      schema = ap (λ (r : Replica). r.schema) is ∙ schema;
      apart = λ name rows has. empty_get name own.replica.state.batches none;
      limit = omega (arith, count, limit);
    }
