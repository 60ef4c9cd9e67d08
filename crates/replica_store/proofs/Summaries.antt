-- The names of a replica's batches may be a summary's: they are not more than its batches, and each is proper.
use Rattle.std.specs.Prelude.{◌≡◌, ◌≤◌, ◌+◌, suc, true, false, cond, List, [], ◌∷◌, length, Option, Some, None, is_some}
use Rattle.std.proofs.Common.{refl, sym, ap, ◌∙◌, arith}
use Rattle.std.proofs.lemmas.List.{length-map}
use Rattle.std.specs.FinMap as map
use Rattle.std.specs.FinSet as set
use Rattle.table_model.specs.Name.{name_cmp}
use Rattle.table_model.specs.Table.{Table}
use Rattle.table_model.specs.declared.names.BatchName.{BatchName}
use Rattle.table_model.proofs.NameOrder.{names_total, exact_names}
use Rattle.segment_core.specs.Segment.{SegmentForm}
use Rattle.replica_store.specs.Replica.{names_of, batch_limit}
use Rattle.replica_store.specs.Segments.{AreStored, rows_in}
use Rattle.replica_store.specs.Exchange.{AreListable}
use Rattle.replica_store.proofs.Names.{contains-names_of}
use Rattle.replica_store.proofs.RowsIn.{get-rows_in, is_some-rows}

pub AreListable-empty : AreListable set.empty
AreListable-empty = record {
  limit = omega (arith, set.len-empty name_cmp);
  proper = λ name has. let not : set.contains (set.empty {R = name_cmp}) name ≡ false = set.contains-empty name_cmp name in cc;
}

-- a set has no more names than a list that it is made of
pub len-from_list : (ks : List BatchName) → set.len (set.from_list {R = name_cmp} ks) ≤ length ks
len-from_list [] = omega (arith, set.len-empty name_cmp)
len-from_list (k ∷ ks) =
    let names = set.from_list {R = name_cmp} ks in
    let rest : set.len names ≤ length ks = len-from_list ks in
    let more : set.len (set.insert names k) ≡ cond (set.contains names k) (set.len names) (set.len names + 1) = set.len-insert names_total names k in
    elim (set.contains names k) as (λ b. set.len (set.insert names k) ≡ cond b (set.len names) (set.len names + 1) → set.len (set.insert names k) ≤ suc (length ks)) [
      | true ↦ λ is. omega (arith, is, rest)
      | false ↦ λ is. omega (arith, is, rest)
    ] more

length-keys : {X : Type 0} (m : map.FinMap name_cmp X) → length (map.keys m) ≡ map.len m
length-keys {X} m = length-map (map.entries m) (λ (e : BatchName × X). e.0) ∙ sym (map.len-entries m)

len-names_of : {X : Type 0} (m : map.FinMap name_cmp X) → set.len (names_of m) ≤ map.len m
unfolding names_of
len-names_of m = let few = len-from_list (map.keys m) in let keys = length-keys m in omega (arith, few, keys)

there : (o : Option SegmentForm) → is_some o ≡ true → (s : SegmentForm) × (o ≡ Some s)
there None e = cc
there (Some s) e = (s, refl)

pub AreListable-names : (t : Table) (m : map.FinMap name_cmp SegmentForm) → AreStored t m → map.len m ≤ batch_limit → AreListable (names_of m)
AreListable-names t m stored limit = record {
  limit = omega (arith, limit, len-names_of m);
  proper = λ name has. let held = there (map.get m name) (sym (contains-names_of m name) ∙ has) in let here = stored name held.0 held.1 in here.proper;
}

-- the rows of segments have the segments' names
pub names_of-rows_in : (m : map.FinMap name_cmp SegmentForm) → names_of (rows_in m) ≡ names_of m
names_of-rows_in m = set.same_set names_total exact_names _ _ (λ q.
    contains-names_of (rows_in m) q
    ∙ ap is_some (get-rows_in m q)
    ∙ is_some-rows (map.get m q)
    ∙ sym (contains-names_of m q))
