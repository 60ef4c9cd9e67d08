-- A segment in the place of one under the same name: the order of names stays, and the map has it there.
use Rattle.std.specs.Prelude.{◌≡◌, ℕ, zero, suc, ◌<◌, Bool, true, false, cond, ◌&&◌, T, List, [], ◌∷◌, ◌++◌, length, take, drop, slice_get, slice_set, Option, Some, option_map, is_some, Result, Ok, Err, IsOk}
use Rattle.std.proofs.Common.{refl, sym, ap, subst, ◌∙◌, arith, inl, inr, Less, Equal, Greater}
use Rattle.std.specs.Ordering.{is_lt, is_eq, eq_by_cmp, ordering_reverse}
use Rattle.std.specs.declared.cmp.Ordering.{Ordering}
use Rattle.std.specs.FinMap as map
use Rattle.std.specs.FinSet as set
use Rattle.std.specs.FinMap.Entries.{is_sorted, below_all, by_order}
use Rattle.table_model.specs.Outcome.{Acts}
use Rattle.table_model.specs.Name.{name_cmp}
use Rattle.table_model.specs.declared.names.BatchName.{BatchName}
use Rattle.table_model.specs.declared.refusal.Refusal.{Refusal}
use Rattle.table_model.proofs.NameOrder.{names_total, exact_names}
use Rattle.table_model.proofs.Operations.{same_name, itself}
use Rattle.segment_core.specs.Segment.{SegmentForm, recoded}
use Rattle.segment_core.specs.declared.coding.Coding.{Coding}
use Rattle.replica_store.specs.Segments.{Entry, HoldsAt, RecodesEntries, rows_in, recoded_in, recoded_held, put_under}
use Rattle.replica_store.specs.Replica.{AreKept, names_of}
use Rattle.replica_store.proofs.Maps.{Sorted, as_map, entries-as_map, get-as_map}
use Rattle.replica_store.proofs.Names.{contains-names_of}
use Rattle.replica_store.proofs.RowsIn.{rows, rows_in-insert, get-rows_in}
use Rattle.replica_store.proofs.Places.{first_of_both, second_of_both, less_is}
use Rattle.std.proofs.lemmas.List.{drop_all, length-set}
use Rattle.std.proofs.Math.Seq.{take-append_seam}
use Rattle.table_model.proofs.Joins.{same_maps}

pub from_place : (entries rest : List Entry) (i n : ℕ) → rest ≡ drop i entries → i ≡ n → rest ≡ drop n entries
from_place entries rest i n is at = is ∙ ap (λ k. drop k entries) at

get_drop : (es others : List Entry) (e : Entry) (i : ℕ) → drop i es ≡ e ∷ others → slice_get es i ≡ Some e
get_drop [] others e zero is = cc
get_drop [] others e (suc i) is = cc
get_drop (x ∷ es) others e zero is = let here : x ≡ e = cc in ap Some here
get_drop (x ∷ es) others e (suc i) is = get_drop es others e i is

get_below : (es : List Entry) (e : Entry) (i : ℕ) → slice_get es i ≡ Some e → i < length es
get_below [] e i is = cc
get_below (x ∷ es) e zero is = omega arith
get_below (x ∷ es) e (suc i) is = let rest = get_below es e i is in omega arith

pub at_place : (q : BatchName) (es rest others : List Entry) (e : Entry) (i : ℕ) → rest ≡ drop i es → rest ≡ e ∷ others → is_eq (name_cmp q e.0) ≡ true → HoldsAt es q i
at_place q es rest others e i is cut tied =
    let same : q ≡ e.0 = same_name q e.0 tied in
    (e.1, get_drop es others e i (sym is ∙ cut) ∙ ap (λ (n : BatchName). let entry : Entry = (n, e.1) in Some entry) (sym same))

pub below_place : (es rest others : List Entry) (e : Entry) (i : ℕ) → rest ≡ drop i es → rest ≡ e ∷ others → i < length es
below_place es rest others e i is cut = get_below es e i (get_drop es others e i (sym is ∙ cut))

below_all-set : (q n : BatchName) (es : List Entry) (i : ℕ) (s made : SegmentForm) → slice_get es i ≡ Some (n, s) → below_all name_cmp q (slice_set es i (n, made)) ≡ below_all name_cmp q es
below_all-set q n [] i s made is = cc
below_all-set q n (x ∷ es) zero s made is =
    let same : x.0 ≡ n = let here : x ≡ (n, s) = cc in ap (λ (e : Entry). e.0) here in
    ap (λ (m : BatchName). is_lt (name_cmp q m) && below_all name_cmp q es) (sym same)
below_all-set q n (x ∷ es) (suc i) s made is = ap (λ (b : Bool). is_lt (name_cmp q x.0) && b) (below_all-set q n es i s made is)

pub sorted-set : (n : BatchName) (es : List Entry) (i : ℕ) (s made : SegmentForm) → slice_get es i ≡ Some (n, s) → is_sorted name_cmp (slice_set es i (n, made)) ≡ is_sorted name_cmp es
sorted-set n [] i s made is = cc
sorted-set n (x ∷ es) zero s made is =
    let same : x.0 ≡ n = let here : x ≡ (n, s) = cc in ap (λ (e : Entry). e.0) here in
    ap (λ (m : BatchName). below_all name_cmp m es && is_sorted name_cmp es) (sym same)
sorted-set n (x ∷ es) (suc i) s made is = λ k. below_all-set x.0 n es i s made is k && sorted-set n es i s made is k

equal_is : (r : Ordering) → is_eq r ≡ true → r ≡ Equal
equal_is Less e = cc
equal_is Equal e = refl
equal_is Greater e = cc

-- what stands after the first entry comes after it
later : (x : BatchName) (n : BatchName) (es : List Entry) (i : ℕ) (s : SegmentForm) → T (below_all name_cmp x es) → slice_get es i ≡ Some (n, s) → name_cmp n x ≡ Greater
later x n [] i s below is = cc
later x n (e ∷ es) zero s below is =
    let same : e.0 ≡ n = let here : e ≡ (n, s) = cc in ap (λ (y : Entry). y.0) here in
    let less : name_cmp x n ≡ Less = ap (name_cmp x) (sym same) ∙ less_is _ (first_of_both (is_lt (name_cmp x e.0)) (below_all name_cmp x es) below) in
    names_total.antisymm n x ∙ ap ordering_reverse less
later x n (e ∷ es) (suc i) s below is = later x n es i s (second_of_both (is_lt (name_cmp x e.0)) (below_all name_cmp x es) below) is

set-put : (n : BatchName) (es : List Entry) (i : ℕ) (s made : SegmentForm) → T (is_sorted name_cmp es) → slice_get es i ≡ Some (n, s) → slice_set es i (n, made) ≡ map.put name_cmp n made es
set-put n [] i s made h is = cc
set-put n (x ∷ es) zero s made h is =
    let same : x.0 ≡ n = let here : x ≡ (n, s) = cc in ap (λ (y : Entry). y.0) here in
    let tied : name_cmp n x.0 ≡ Equal = ap (name_cmp n) same ∙ equal_is (name_cmp n n) (itself n) in
    ap (λ (m : BatchName). (m, made) ∷ es) (sym same)
    ∙ sym (ap (λ r. by_order r ((n, made) ∷ x ∷ es) ((x.0, made) ∷ es) (x ∷ map.put name_cmp n made es)) tied)
set-put n (x ∷ es) (suc i) s made h is =
    let over = later x.0 n es i s (first_of_both (below_all name_cmp x.0 es) (is_sorted name_cmp es) h) is in
    ap (λ (rest : List Entry). x ∷ rest) (set-put n es i s made (second_of_both (below_all name_cmp x.0 es) (is_sorted name_cmp es) h) is)
    ∙ sym (ap (λ r. by_order r ((n, made) ∷ x ∷ es) ((x.0, made) ∷ es) (x ∷ map.put name_cmp n made es)) over)

pub find-held : (n : BatchName) (es : List Entry) (i : ℕ) (s : SegmentForm) → T (is_sorted name_cmp es) → slice_get es i ≡ Some (n, s) → map.find name_cmp n es ≡ Some s
find-held n [] i s h is = cc
find-held n (x ∷ es) zero s h is =
    let here : x ≡ (n, s) = cc in
    let tied : is_eq (name_cmp n x.0) ≡ true = ap (λ (y : Entry). is_eq (name_cmp n y.0)) here ∙ itself n in
    ap (λ (b : Bool). cond b (Some x.1) (map.find name_cmp n es)) tied ∙ ap (λ (y : Entry). Some y.1) here
find-held n (x ∷ es) (suc i) s h is =
    let over = later x.0 n es i s (first_of_both (below_all name_cmp x.0 es) (is_sorted name_cmp es) h) is in
    ap (λ r. cond (is_eq r) (Some x.1) (map.find name_cmp n es)) over ∙ find-held n es i s (second_of_both (below_all name_cmp x.0 es) (is_sorted name_cmp es) h) is

pub as_map-set : (n : BatchName) (es : List Entry) (i : ℕ) (s made : SegmentForm) → Sorted es → slice_get es i ≡ Some (n, s) → as_map (slice_set es i (n, made)) ≡ map.insert (as_map es) n made
as_map-set n es i s made h is =
    let sorted : Sorted (slice_set es i (n, made)) = subst T (sym (sorted-set n es i s made is)) h in
    map.same_entries_map _ _
    (entries-as_map _ sorted
    ∙ set-put n es i s made h is
    ∙ ap (map.put name_cmp n made) (sym (entries-as_map es h))
    ∙ sym (map.entries-insert names_total (as_map es) n made))

pub get-held : (n : BatchName) (es : List Entry) (i : ℕ) (s : SegmentForm) → Sorted es → slice_get es i ≡ Some (n, s) → map.get (as_map es) n ≡ Some s
get-held n es i s h is = get-as_map es n h ∙ find-held n es i s h is

-- to put in what is there changes nothing
insert_again : {X : Type 0} (m : map.FinMap name_cmp X) (n : BatchName) (v : X) → map.get m n ≡ Some v → map.insert m n v ≡ m
insert_again m n v has = same_maps _ _ (λ q.
    map.get-insert names_total m n v q
    ∙ elim (eq_by_cmp name_cmp q n) as (λ b. eq_by_cmp name_cmp q n ≡ b → cond b (Some v) (map.get m q) ≡ map.get m q) [
      | true ↦ λ t. sym has ∙ ap (map.get m) (sym (same_name q n t))
      | false ↦ λ t. refl
    ] refl)

names_again : (m : map.FinMap name_cmp SegmentForm) (n : BatchName) (s made : SegmentForm) → map.get m n ≡ Some s → names_of (map.insert m n made) ≡ names_of m
names_again m n s made has = set.same_set names_total exact_names _ _ (λ q.
    contains-names_of (map.insert m n made) q
    ∙ ap is_some (map.get-insert names_total m n made q)
    ∙ elim (eq_by_cmp name_cmp q n) as (λ b. eq_by_cmp name_cmp q n ≡ b → is_some (cond b (Some made) (map.get m q)) ≡ map.contains_key m q) [
      | true ↦ λ t. sym (ap is_some (ap (map.get m) (same_name q n t) ∙ has))
      | false ↦ λ t. refl
    ] refl
    ∙ sym (contains-names_of m q))

pub same_length : (old new : List Entry) (result : Result (Unit {0}) Refusal) (n : BatchName) (column vector : ℕ) (coding : Coding) → RecodesEntries old new result n column vector coding → length new ≡ length old
same_length old new result n column vector coding (inl h) = ap length h.2
same_length old new result n column vector coding (inr h) = ap length h.4 ∙ length-set {A = Entry} old h.0 (n, h.2)

-- a vector that is written over one of the same length
pub refill : (k : ℕ) (old new : List Entry) → k ≡ length old → length new ≡ length old → take k (new ++ drop (length new) old) ≡ new
refill k old new is same = (λ i. take ((is ∙ sym same) i) (new ++ drop_all (length new) old (omega arith) i)) ∙ take-append_seam new []

-- the order and the names stay
pub kept_recoded : (es new : List Entry) (held : set.FinSet name_cmp) (result : Result (Unit {0}) Refusal) (n : BatchName) (column vector : ℕ) (coding : Coding)
    → AreKept es held → RecodesEntries es new result n column vector coding → AreKept new held
kept_recoded es new held result n column vector coding h (inl r) = subst (λ (xs : List Entry). AreKept xs held) (sym r.2) h
kept_recoded es new held result n column vector coding h (inr r) =
    let made : AreKept (slice_set es r.0 (n, r.2)) held = record {
      sorted = subst T (sym (sorted-set n es r.0 r.1 r.2 r.3)) h.sorted;
      names = h.names ∙ sym (ap names_of (as_map-set n es r.0 r.1 r.2 h.sorted r.3) ∙ names_again (as_map es) n r.1 r.2 (get-held n es r.0 r.1 h.sorted r.3));
    } in
    subst (λ (xs : List Entry). AreKept xs held) (sym r.4) made

pub rows_recoded : (es new : List Entry) (result : Result (Unit {0}) Refusal) (n : BatchName) (column vector : ℕ) (coding : Coding)
    → Sorted es → RecodesEntries es new result n column vector coding → rows_in (as_map new) ≡ rows_in (as_map es)
rows_recoded es new result n column vector coding h (inl r) = ap (λ (xs : List Entry). rows_in (as_map xs)) r.2
rows_recoded es new result n column vector coding h (inr r) =
    let m = as_map es in
    ap (λ (xs : List Entry). rows_in (as_map xs)) r.4
    ∙ ap rows_in (as_map-set n es r.0 r.1 r.2 h r.3)
    ∙ rows_in-insert m n r.2
    ∙ ap (map.insert (rows_in m) n) r.5
    ∙ insert_again (rows_in m) n r.1.rows (get-rows_in m n ∙ ap (option_map rows) (get-held n es r.0 r.1 h r.3))

pub put_ok : (m : map.FinMap name_cmp SegmentForm) (n : BatchName) (made : Result (Unit {0} × SegmentForm) Refusal) → IsOk made → IsOk (put_under m n made)
put_ok m n (Ok done) ok = ok
put_ok m n (Err e) ok = ok

abbrev done : Unit {0} → Unit {0}
done u = u

-- the map of segments after a recode that found the segment
recoded_found_in : (es : List Entry) (n : BatchName) (at : ℕ) (s made : SegmentForm) (result : Result (Unit {0}) Refusal) (column vector : ℕ) (coding : Coding)
    → Sorted es → slice_get es at ≡ Some (n, s) → Acts done s result made (recoded s column vector coding)
    → Acts done (as_map es) result (as_map (slice_set es at (n, made))) (recoded_in (as_map es) n column vector coding)
unfolding recoded_in
recoded_found_in es n at s made (Ok u) column vector coding h is acts =
    let m = as_map es in
    ap (λ (o : Option SegmentForm). put_under m n (recoded_held o column vector coding)) (get-held n es at s h is)
    ∙ ap (put_under m n) acts
    ∙ ap (λ (x : map.FinMap name_cmp SegmentForm). let ok : Result (Unit {0} × map.FinMap name_cmp SegmentForm) Refusal = Ok (tt, x) in ok) (sym (as_map-set n es at s made h is))
recoded_found_in es n at s made (Err e) column vector coding h is acts =
    let m = as_map es in
    let step = ap (λ (o : Option SegmentForm). put_under m n (recoded_held o column vector coding)) (get-held n es at s h is) in (
      as_map-set n es at s made h is ∙ ap (map.insert m n) acts.0 ∙ insert_again m n s (get-held n es at s h is),
      elim acts.1 [
        | inl refused ↦ inl (step ∙ ap (put_under m n) refused)
        | inr lack ↦ inr (lack.0, rw step (put_ok m n (recoded s column vector coding) lack.1))
      ],
    )

pub acts_recoded : (es new : List Entry) (result : Result (Unit {0}) Refusal) (n : BatchName) (column vector : ℕ) (coding : Coding)
    → Sorted es → RecodesEntries es new result n column vector coding → Acts done (as_map es) result (as_map new) (recoded_in (as_map es) n column vector coding)
unfolding recoded_in
acts_recoded es new result n column vector coding h (inl r) =
    let m = as_map es in
    let P : Result (Unit {0}) Refusal → Type 0 = λ x. Acts done m x (as_map new) (recoded_in m n column vector coding) in
    subst P (sym r.1) (ap as_map r.2, inl (ap (λ (o : Option SegmentForm). put_under m n (recoded_held o column vector coding)) (get-as_map es n h ∙ r.0)))
acts_recoded es new result n column vector coding h (inr r) =
    let P : List Entry → Type 0 = λ xs. Acts done (as_map es) result (as_map xs) (recoded_in (as_map es) n column vector coding) in
    subst P (sym r.4) (recoded_found_in es n r.0 r.1 r.2 result column vector coding h r.3 r.7)
