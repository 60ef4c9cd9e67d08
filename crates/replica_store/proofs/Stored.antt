-- A map's batches are as a store may hold them where its entries are; so it stays under an insert and a union.
use Rattle.std.specs.Prelude.{◌≡◌, ℕ, zero, suc, ◌<◌, true, false, cond, List, [], ◌∷◌, length, Some, None, Result}
use Rattle.std.proofs.Common.{refl, sym, ap, subst, ◌∙◌, arith, get_or, inl, inr}
use Rattle.std.specs.List.{All, slice_get}
use Rattle.std.proofs.lemmas.Option.{slice_get_read}
use Rattle.std.specs.Ordering.{eq_by_cmp}
use Rattle.std.specs.FinMap as map
use Rattle.table_model.specs.State.{union_of}
use Rattle.table_model.specs.Name.{name_cmp}
use Rattle.table_model.specs.Table.{Table, IsBatch}
use Rattle.table_model.specs.declared.names.BatchName.{BatchName}
use Rattle.table_model.specs.declared.refusal.Refusal.{Refusal}
use Rattle.table_model.proofs.NameOrder.{names_total}
use Rattle.table_model.proofs.Operations.{same_name}
use Rattle.table_model.proofs.Joins.{or_else, get-union}
use Rattle.segment_core.specs.Segment.{SegmentForm}
use Rattle.segment_core.specs.declared.coding.Coding.{Coding}
use Rattle.segment_core.proofs.VectorLaws.{some_is}
use Rattle.replica_store.specs.Replica.{AllFit, IsWithinLimits}
use Rattle.replica_store.specs.Segments.{Segments, Entry, IsStored, AreStored, RecodesEntries, rows_in, rows_entries}
use Rattle.replica_store.specs.Exchange.{AreOffered}
use Rattle.replica_store.proofs.Maps.{Sorted, as_map, entries-as_map, get-as_map, len-as_map}
use Rattle.replica_store.proofs.Recodes.{get-held, as_map-set}
use Rattle.replica_store.proofs.RowsIn.{entries-rows_in, len-rows_in}

-- what is found is one of the entries
found_stored : (t : Table) (es : List Entry) (q : BatchName) (s : SegmentForm) → All (IsStored t) es → map.find name_cmp q es ≡ Some s → IsStored t (q, s)
found_stored t [] q s all e = cc
found_stored t (x ∷ es) q s all e =
    elim (eq_by_cmp name_cmp q x.0) as (λ b. eq_by_cmp name_cmp q x.0 ≡ b → cond b (Some x.1) (map.find name_cmp q es) ≡ Some s → IsStored t (q, s)) [
      | true ↦ λ tied is.
          let name : x.0 ≡ q = sym (same_name q x.0 tied) in
          let segment : x.1 ≡ s = some_is x.1 s is in
          subst (IsStored t) (λ i. (name i, segment i)) (all 0 x (omega arith))
      | false ↦ λ tied is. found_stored t es q s (λ k d below. all (suc k) d (omega (arith, below))) is
    ] refl e

-- entries that may be held make a map whose batches may be
pub AreStored-all : (t : Table) (es : List Entry) → Sorted es → All (IsStored t) es → AreStored t (as_map es)
AreStored-all t es sorted all = λ q s has. found_stored t es q s all (sym (get-as_map es q sorted) ∙ has)

-- the entry at a place
pub IsStored-at : (t : Table) (m : Segments) (i : ℕ) (e : Entry) → AreStored t m → slice_get (map.entries m) i ≡ Some e → IsStored t e
IsStored-at t m i e stored is =
    let same : as_map (map.entries m) ≡ m = map.same_entries_map _ _ (entries-as_map (map.entries m) (map.entries_sorted m)) in
    stored e.0 e.1 (ap (λ (x : Segments). map.get x e.0) (sym same) ∙ get-held e.0 (map.entries m) i e.1 (map.entries_sorted m) is)

-- and each of a map's entries may be held where its batches may be
pub All-stored : (t : Table) (m : Segments) → AreStored t m → All (IsStored t) (map.entries m)
All-stored t m stored = λ k d below. IsStored-at t m k (get_or (map.entries m) k d) stored (slice_get_read (map.entries m) (length (map.entries m)) k (get_or (map.entries m) k d) refl below (read_itself (map.entries m) k d below))
  where
    read_itself : (es : List Entry) (k : ℕ) (d : Entry) → k < length es → get_or es k d ≡ get_or es k (get_or es k d)
    read_itself [] k d below = absurd (omega (arith, below))
    read_itself (x ∷ es) zero d below = refl
    read_itself (x ∷ es) (suc k) d below = read_itself es k d (omega (arith, below))

pub AreStored-empty : (t : Table) → AreStored t map.empty
AreStored-empty t = λ q s has. let none : map.get {X = SegmentForm} (map.empty {R = name_cmp}) q ≡ None = map.get-empty name_cmp q in let lost : None ≡ Some s = sym none ∙ has in cc

pub AreStored-insert : (t : Table) (m : Segments) (name : BatchName) (made : SegmentForm) → AreStored t m → IsStored t (name, made) → AreStored t (map.insert m name made)
AreStored-insert t m name made stored new = λ q s has.
    elim (eq_by_cmp name_cmp q name) as (λ b. eq_by_cmp name_cmp q name ≡ b → cond b (Some made) (map.get m q) ≡ Some s → IsStored t (q, s)) [
      | true ↦ λ tied is.
          let at : name ≡ q = sym (same_name q name tied) in
          let segment : made ≡ s = some_is made s is in
          subst (IsStored t) (λ i. (at i, segment i)) new
      | false ↦ λ tied is. stored q s is
    ] refl (sym (map.get-insert names_total m name made q) ∙ has)

pub AreStored-union : (t : Table) (m n : Segments) → AreStored t m → AreStored t n → AreStored t (union_of m n)
AreStored-union t m n g h = λ q s has.
    elim (map.get m q) as (λ o. map.get m q ≡ o → or_else o (map.get n q) ≡ Some s → IsStored t (q, s)) [
      | None ↦ λ is found. h q s found
      | Some v ↦ λ is found. g q s (is ∙ found)
    ] refl (sym (get-union m n q) ∙ has)

-- a vector in another coding leaves a batch one that may be held
pub AreStored-recoded : (t : Table) (es new : List Entry) (result : Result (Unit {0}) Refusal) (n : BatchName) (column vector : ℕ) (coding : Coding)
    → Sorted es → RecodesEntries es new result n column vector coding → AreStored t (as_map es) → AreStored t (as_map new)
AreStored-recoded t es new result n column vector coding sorted (inl r) stored = subst (λ (xs : List Entry). AreStored t (as_map xs)) (sym r.2) stored
AreStored-recoded t es new result n column vector coding sorted (inr r) stored =
    let before = stored n r.1 (get-held n es r.0 r.1 sorted r.3) in
    let after : IsStored t (n, r.2) = record { proper = before.proper; fits = subst (IsBatch t) (sym r.5) before.fits; widths = r.6 ∙ before.widths } in
    subst (AreStored t) (sym (ap as_map r.4 ∙ as_map-set n es r.0 r.1 r.2 sorted r.3)) (AreStored-insert t (as_map es) n r.2 stored after)

pub AllFit-stored : (t : Table) (es : List Entry) → All (IsStored t) es → AllFit t (rows_entries es)
AllFit-stored t [] all = tt
AllFit-stored t (x ∷ es) all =
    let here = all 0 x (omega arith) in
    (record { proper = here.proper; fits = here.fits }, AllFit-stored t es (λ k d below. all (suc k) d (omega (arith, below))))

-- the rows of batches that may be held fit the schema
pub AllFit-rows_in : (t : Table) (m : Segments) → AreStored t m → AllFit t (map.entries (rows_in m))
AllFit-rows_in t m stored = subst (AllFit t) (sym (entries-rows_in m)) (AllFit-stored t (map.entries m) (All-stored t m stored))

-- what is offered is within the limits of a replica
pub IsWithinLimits-offered : (t : Table) (es : List Entry) → AreOffered t es → IsWithinLimits t (rows_in (as_map es))
IsWithinLimits-offered t es offered = record {
  limit = omega (arith, offered.limit, len-rows_in (as_map es), len-as_map es offered.sorted);
  fits = subst (AllFit t) (sym (entries-rows_in (as_map es) ∙ ap rows_entries (entries-as_map es offered.sorted))) (AllFit-stored t es offered.stored);
}
