-- Batches in two parts after one goes in, after others are merged in, and after a vector was put into another coding.
use Rattle.std.specs.Prelude.{◌≡◌, ℕ, Bool, true, false, cond, not, filter, List, [], ◌∷◌, ◌++◌, None, Result, Ok, Err, OnOk, OnErr}
use Rattle.std.proofs.Common.{refl, sym, ap, subst, ◌∙◌}
use Rattle.std.specs.List.{insert}
use Rattle.std.specs.declared.alloc.AllocError.{AllocError}
use Rattle.std.specs.FinMap as map
use Rattle.std.specs.FinSet as set
use Rattle.table_model.specs.State.{union_of}
use Rattle.table_model.specs.Name.{name_cmp}
use Rattle.table_model.specs.declared.names.BatchName.{BatchName}
use Rattle.table_model.specs.declared.names.Origin.{Origin}
use Rattle.table_model.specs.declared.refusal.Refusal.{Refusal}
use Rattle.segment_core.specs.Segment.{SegmentForm}
use Rattle.segment_core.specs.declared.coding.Coding.{Coding}
use Rattle.replica_store.specs.Entries.{count_below, merge}
use Rattle.replica_store.specs.Parted.{Each, IsUpTo, IsPast, AreParted, AreKeptInParts}
use Rattle.replica_store.specs.Replica.{AreKept, names_of, lacked_by}
use Rattle.replica_store.specs.Segments.{AreLackedOf, BatchesForm, Entry, RecodesEntries}
use Rattle.replica_store.proofs.InParts.{insert-up_to, insert-past, Each-insert, Each-merge, Each-recoded, merge-parted, recodes-up_to, recodes-past}
use Rattle.replica_store.proofs.Maps.{Sorted, as_map, get-as_map, Sorted-insert, as_map-insert, entries-as_map}
use Rattle.replica_store.proofs.Merges.{as_map-merge, Sorted-union}
use Rattle.replica_store.proofs.Names.{names_of-insert, names_of-union}
use Rattle.replica_store.proofs.Recodes.{kept_recoded}

abbrev Names : Type 0
Names = set.FinSet name_cmp

-- the order and the names, after a batch went in at its place
kept_put : (es new : List Entry) (held all : Names) (q : BatchName) (v : SegmentForm) → AreKept es held → map.find name_cmp q es ≡ None → new ≡ insert es (count_below name_cmp q es) (q, v) → all ≡ set.insert held q → AreKept new all
kept_put es new held all q v h none is more = record {
  sorted = subst Sorted (sym is) (Sorted-insert q v es h.sorted none);
  names = more ∙ ap (λ s. set.insert s q) h.names ∙ sym (names_of-insert (as_map es) q v) ∙ ap names_of (sym (as_map-insert q v es h.sorted none) ∙ ap as_map (sym is));
}

not_there : (es : List Entry) (q : BatchName) (m : map.FinMap name_cmp SegmentForm) → Sorted es → as_map es ≡ m → map.get m q ≡ None → map.find name_cmp q es ≡ None
not_there es q m h is none = sym (get-as_map es q h) ∙ ap (λ n. map.get n q) is ∙ none

-- a batch that goes into the first part
pub put_front : (result : Result (Unit {0}) AllocError) (own : Origin) (es fs new : List Entry) (held all : Names) (m : map.FinMap name_cmp SegmentForm) (q : BatchName) (v : SegmentForm)
    → AreKeptInParts own es fs held → IsUpTo own q → as_map (es ++ fs) ≡ m → map.get m q ≡ None
    → OnOk result (new ≡ insert es (count_below name_cmp q es) (q, v)) → OnOk result (all ≡ set.insert held q) → OnErr result (new ≡ es) → OnErr result (all ≡ held) → AreKeptInParts own new fs all
put_front (Ok u) own es fs new held all m q v h up is none put more same_entries same_names = record {
  kept = kept_put (es ++ fs) (new ++ fs) held all q v h.kept (not_there (es ++ fs) q m h.kept.sorted is none) (ap (λ (xs : List Entry). xs ++ fs) put ∙ insert-up_to own q v es fs up h.parted.past) more;
  parted = record { up_to = subst (Each (IsUpTo own)) (sym put) (Each-insert (IsUpTo own) es (count_below name_cmp q es) q v h.parted.up_to up); past = h.parted.past };
}
put_front (Err e) own es fs new held all m q v h up is none put more same_entries same_names = subst (λ (s : Names). AreKeptInParts own new fs s) (sym same_names) (subst (λ (xs : List Entry). AreKeptInParts own xs fs held) (sym same_entries) h)

-- a batch that goes into the second part
pub put_back : (result : Result (Unit {0}) AllocError) (own : Origin) (es fs new : List Entry) (held all : Names) (m : map.FinMap name_cmp SegmentForm) (q : BatchName) (v : SegmentForm)
    → AreKeptInParts own es fs held → IsPast own q → as_map (es ++ fs) ≡ m → map.get m q ≡ None
    → OnOk result (new ≡ insert fs (count_below name_cmp q fs) (q, v)) → OnOk result (all ≡ set.insert held q) → OnErr result (new ≡ fs) → OnErr result (all ≡ held) → AreKeptInParts own es new all
put_back (Ok u) own es fs new held all m q v h past is none put more same_entries same_names = record {
  kept = kept_put (es ++ fs) (es ++ new) held all q v h.kept (not_there (es ++ fs) q m h.kept.sorted is none) (ap (λ (xs : List Entry). es ++ xs) put ∙ insert-past own q v es fs past h.parted.up_to) more;
  parted = record { up_to = h.parted.up_to; past = subst (Each (IsPast own)) (sym put) (Each-insert (IsPast own) fs (count_below name_cmp q fs) q v h.parted.past past) };
}
put_back (Err e) own es fs new held all m q v h past is none put more same_entries same_names = subst (λ (s : Names). AreKeptInParts own es new s) (sym same_names) (subst (λ (xs : List Entry). AreKeptInParts own es xs held) (sym same_entries) h)

-- the map has it then
pub put_front_map : (result : Result (Unit {0}) AllocError) (own : Origin) (es fs new : List Entry) (held : Names) (m : map.FinMap name_cmp SegmentForm) (q : BatchName) (v : SegmentForm)
    → AreKeptInParts own es fs held → IsUpTo own q → as_map (es ++ fs) ≡ m → map.get m q ≡ None → OnOk result (new ≡ insert es (count_below name_cmp q es) (q, v)) → OnOk result (as_map (new ++ fs) ≡ map.insert m q v)
put_front_map (Err e) own es fs new held m q v h up is none put = tt
put_front_map (Ok u) own es fs new held m q v h up is none put =
    ap as_map (ap (λ (xs : List Entry). xs ++ fs) put ∙ insert-up_to own q v es fs up h.parted.past)
    ∙ as_map-insert q v (es ++ fs) h.kept.sorted (not_there (es ++ fs) q m h.kept.sorted is none)
    ∙ ap (λ (n : map.FinMap name_cmp SegmentForm). map.insert n q v) is

pub put_back_map : (result : Result (Unit {0}) AllocError) (own : Origin) (es fs new : List Entry) (held : Names) (m : map.FinMap name_cmp SegmentForm) (q : BatchName) (v : SegmentForm)
    → AreKeptInParts own es fs held → IsPast own q → as_map (es ++ fs) ≡ m → map.get m q ≡ None → OnOk result (new ≡ insert fs (count_below name_cmp q fs) (q, v)) → OnOk result (as_map (es ++ new) ≡ map.insert m q v)
put_back_map (Err e) own es fs new held m q v h past is none put = tt
put_back_map (Ok u) own es fs new held m q v h past is none put =
    ap as_map (ap (λ (xs : List Entry). es ++ xs) put ∙ insert-past own q v es fs past h.parted.up_to)
    ∙ as_map-insert q v (es ++ fs) h.kept.sorted (not_there (es ++ fs) q m h.kept.sorted is none)
    ∙ ap (λ (n : map.FinMap name_cmp SegmentForm). map.insert n q v) is

-- parts that are merged with the parts of what is lacked are all, merged with what is lacked
pub merged_parts : (own : Origin) (es fs new_up_to new_past fresh_up_to fresh_past others : List Entry) (held : Names)
    → AreKeptInParts own es fs held → AreParted own fresh_up_to fresh_past → fresh_up_to ++ fresh_past ≡ lacked_by held others → Sorted others
    → new_up_to ≡ merge name_cmp es fresh_up_to → new_past ≡ merge name_cmp fs fresh_past
    → new_up_to ++ new_past ≡ merge name_cmp (es ++ fs) (lacked_by (names_of (as_map (es ++ fs))) (map.entries (as_map others)))
merged_parts own es fs new_up_to new_past fresh_up_to fresh_past others held h parted lacked sorted up past =
    (λ i. up i ++ past i)
    ∙ merge-parted own es fs fresh_up_to fresh_past h.parted.up_to h.parted.past parted.up_to parted.past
    ∙ (λ i. merge name_cmp (es ++ fs) (lacked i))
    ∙ (λ i. merge name_cmp (es ++ fs) (lacked_by (h.kept.names i) others))
    ∙ ap (λ (x : List Entry). merge name_cmp (es ++ fs) (lacked_by (names_of (as_map (es ++ fs))) x)) (sym (entries-as_map others sorted))

-- the entries whose names aren't among these are those that are lacked
pub filter_lacked : (names : Names) (es : List Entry) → filter (λ (e : Entry). not (set.contains names e.0)) es ≡ lacked_by names es
filter_lacked names [] = refl
filter_lacked names (e ∷ es) = by_test (set.contains names e.0) _ _ (filter_lacked names es)
  where
    by_test : (b : Bool) (fs ls : List Entry) → fs ≡ ls → cond (not b) (e ∷ fs) fs ≡ cond b ls (e ∷ ls)
    by_test true fs ls h = h
    by_test false fs ls h = ap (λ (xs : List Entry). e ∷ xs) h

-- the names that are kept are those of the segments that callers see
held_is : (own : Origin) (es fs : List Entry) (held : Names) (b : BatchesForm) → AreKeptInParts own es fs held → ◌≡◌ {A = BatchesForm} (record { own = own; segments = as_map (es ++ fs) }) b → held ≡ names_of b.segments
held_is own es fs held b h is = h.kept.names ∙ ap (λ (x : BatchesForm). names_of x.segments) is

-- so what callers see as lacked is lacked inside, and the other way round
pub lacked_inside : (own : Origin) (es fs : List Entry) (held : Names) (b : BatchesForm) → AreKeptInParts own es fs held → ◌≡◌ {A = BatchesForm} (record { own = own; segments = as_map (es ++ fs) }) b
    → (others fresh : List Entry) → fresh ≡ lacked_by (names_of b.segments) others → fresh ≡ lacked_by held others
lacked_inside own es fs held b h is others fresh lacked = lacked ∙ ap (λ (n : Names). lacked_by n others) (sym (held_is own es fs held b h is))

pub lacked_of : (own : Origin) (es fs : List Entry) (held : Names) (b : BatchesForm) → AreKeptInParts own es fs held → ◌≡◌ {A = BatchesForm} (record { own = own; segments = as_map (es ++ fs) }) b
    → (others fresh : List Entry) → Sorted others → fresh ≡ lacked_by held others → AreLackedOf b.segments others fresh
lacked_of own es fs held b h is others fresh sorted lacked = record { sorted = sorted; lacked = lacked ∙ ap (λ (n : Names). lacked_by n others) (held_is own es fs held b h is) }

pub kept_merged : (own : Origin) (es fs new_up_to new_past fresh_up_to fresh_past others : List Entry) (held all names : Names)
    → AreKeptInParts own es fs held → AreParted own fresh_up_to fresh_past → fresh_up_to ++ fresh_past ≡ lacked_by held others → Sorted others
    → new_up_to ≡ merge name_cmp es fresh_up_to → new_past ≡ merge name_cmp fs fresh_past → all ≡ set.union held names → names ≡ names_of (as_map others)
    → AreKeptInParts own new_up_to new_past all
kept_merged own es fs new_up_to new_past fresh_up_to fresh_past others held all names h parted lacked sorted up past both named =
    let n : map.FinMap name_cmp SegmentForm = as_map others in
    let is = merged_parts own es fs new_up_to new_past fresh_up_to fresh_past others held h parted lacked sorted up past in
    let whole = ap as_map is ∙ as_map-merge (es ++ fs) n h.kept.sorted in
    record {
      kept = record {
        sorted = subst Sorted (sym is) (Sorted-union (es ++ fs) n h.kept.sorted);
        names = both ∙ (λ i. set.union (h.kept.names i) (named i)) ∙ sym (names_of-union (as_map (es ++ fs)) n) ∙ ap names_of (sym whole);
      };
      parted = record {
        up_to = subst (Each (IsUpTo own)) (sym up) (Each-merge (IsUpTo own) es fresh_up_to h.parted.up_to parted.up_to);
        past = subst (Each (IsPast own)) (sym past) (Each-merge (IsPast own) fs fresh_past h.parted.past parted.past);
      };
    }

pub map_merged : (own : Origin) (es fs new_up_to new_past fresh_up_to fresh_past others : List Entry) (held : Names)
    → AreKeptInParts own es fs held → AreParted own fresh_up_to fresh_past → fresh_up_to ++ fresh_past ≡ lacked_by held others → Sorted others
    → new_up_to ≡ merge name_cmp es fresh_up_to → new_past ≡ merge name_cmp fs fresh_past → as_map (new_up_to ++ new_past) ≡ union_of (as_map (es ++ fs)) (as_map others)
map_merged own es fs new_up_to new_past fresh_up_to fresh_past others held h parted lacked sorted up past =
    ap as_map (merged_parts own es fs new_up_to new_past fresh_up_to fresh_past others held h parted lacked sorted up past) ∙ as_map-merge (es ++ fs) (as_map others) h.kept.sorted

-- a vector in another coding, in either part
pub recoded_front : (own : Origin) (es fs new : List Entry) (held : Names) (result : Result (Unit {0}) Refusal) (n : BatchName) (column vector : ℕ) (coding : Coding)
    → AreKeptInParts own es fs held → IsUpTo own n → RecodesEntries es new result n column vector coding → AreKeptInParts own new fs held
recoded_front own es fs new held result n column vector coding h up r = record {
  kept = kept_recoded (es ++ fs) (new ++ fs) held result n column vector coding h.kept (recodes-up_to own es fs new result n column vector coding up h.parted.past r);
  parted = record { up_to = Each-recoded (IsUpTo own) es new result n column vector coding r h.parted.up_to; past = h.parted.past };
}

pub recoded_back : (own : Origin) (es fs new : List Entry) (held : Names) (result : Result (Unit {0}) Refusal) (n : BatchName) (column vector : ℕ) (coding : Coding)
    → AreKeptInParts own es fs held → IsPast own n → RecodesEntries fs new result n column vector coding → AreKeptInParts own es new held
recoded_back own es fs new held result n column vector coding h past r = record {
  kept = kept_recoded (es ++ fs) (es ++ new) held result n column vector coding h.kept (recodes-past own es fs new result n column vector coding past h.parted.up_to r);
  parted = record { up_to = h.parted.up_to; past = Each-recoded (IsPast own) fs new result n column vector coding r h.parted.past };
}

-- what holds of a value holds of what follows
pub OnOk_then : {X E : Type 0} {P Q : Type 0} → (r : Result X E) → (P → Q) → OnOk r P → OnOk r Q
OnOk_then (Ok x) then p = then p
OnOk_then (Err e) then p = p
