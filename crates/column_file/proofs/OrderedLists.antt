-- The members of a set in ascending order are its one strictly ascending list.
use Rattle.std.proofs.Common.{◌≡◌, ℕ, suc, ◌+◌, true, false, cond, ◌||◌, List, [], ◌∷◌, map, length, get_or, take, ◌<◌, is_some, IsTrue, All, refl, sym, ap, ◌∙◌, subst, arith}
use Rattle.std.specs.List.{list_any, AllByRecursion}
use Rattle.std.specs.List.Sorted.{IsStrictlySortedBy}
use Rattle.std.specs.Ordering.{eq_by_cmp, is_lt}
use Rattle.std.specs.Cmp.{IsTotalOrder, Equal-is}
use Rattle.std.specs.declared.cmp.Ordering.{Ordering}
use Rattle.std.specs.declared.cmp.Ordering.TheVariants.{Less}
use Rattle.std.specs.FinMap as finite
use Rattle.std.specs.FinMap.Entries.{below_all, is_sorted, is_some-find}
use Rattle.std.specs.FinSet as set
use Rattle.std.proofs.lemmas.Bool.{and_parts}
use Rattle.std.proofs.lemmas.List.{take_more}
use Rattle.std.specs.Bool.{passes}
use Rattle.table_model.specs.Name.{name_cmp, is_proper_name}
use Rattle.table_model.specs.declared.names.BatchName.{BatchName}
use Rattle.table_model.proofs.NameOrder.{names_total, exact_names}
use Rattle.table_model.proofs.Passed.{true_from_T, less_is}
use Rattle.catalogue_join.specs.Held.{IsListOf}
use Rattle.column_file.specs.Ordered.{in_order}

each_key : {K : Type 0} (ks : List K) → map (λ (e : K × Unit {0}). e.0) (map (λ (k : K). (k, tt {0})) ks) ≡ ks
each_key [] = refl
each_key (k ∷ ks) = let rest = each_key ks in λ i. k ∷ rest i

module _ {K : Type 0} (R : K → K → Ordering) (o : IsTotalOrder R) where
  above : (x : K) (es : List (K × Unit {0})) → below_all R x es ≡ true → AllByRecursion (λ y. R x y ≡ Less) (map (λ (e : K × Unit {0}). e.0) es)
  above x [] h = tt
  above x (e ∷ es) h = let v = and_parts (is_lt (R x e.0)) (below_all R x es) h in (less_is (R x e.0) (passes (is_lt (R x e.0)) v.0), above x es v.1)

  rising : (es : List (K × Unit {0})) → is_sorted R es ≡ true → IsStrictlySortedBy R (map (λ (e : K × Unit {0}). e.0) es)
  unfolding IsStrictlySortedBy
  rising [] h = tt
  rising (e ∷ es) h = let v = and_parts (below_all R e.0 es) (is_sorted R es) h in (above e.0 es v.0, rising es v.1)

  pub ascending-in_order : (s : set.FinSet R) → IsStrictlySortedBy R (in_order R s)
  unfolding in_order
  ascending-in_order s =
      let m = finite.from_entries {R = R} (map (λ (k : K). (k, tt {0})) (set.items s)) in
      rising (finite.entries m) (true_from_T (is_sorted R (finite.entries m)) (finite.entries_sorted m))

  pub members-in_order : (s : set.FinSet R) (q : K) → list_any (eq_by_cmp R q) (in_order R s) ≡ set.contains s q
  unfolding in_order
  members-in_order s q =
      let es = map (λ (k : K). (k, tt {0})) (set.items s) in
      let m = finite.from_entries {R = R} es in
      sym (finite.contains_key-keys m q) ∙ ap is_some (finite.get-from_entries o es q) ∙ is_some-find R q es ∙ ap (list_any (eq_by_cmp R q)) (each_key (set.items s)) ∙ sym (set.contains-items s q)

-- the names of a set in order
pub listed_names : (held : set.FinSet name_cmp) → IsListOf (in_order name_cmp held) held
listed_names held = record {
  ascending = ascending-in_order name_cmp names_total held;
  same = set.same_set names_total exact_names (set.from_list (in_order name_cmp held)) held
      (λ q. set.contains-from_list names_total (in_order name_cmp held) q ∙ members-in_order name_cmp names_total held q);
}

absent : (x : BatchName) (xs : List BatchName) → AllByRecursion (λ y. name_cmp x y ≡ Less) xs → list_any (eq_by_cmp name_cmp x) xs ≡ false
absent x [] a = refl
absent x (y ∷ xs) a = rw (a.0, absent x xs a.1) refl

len-ascending : (xs : List BatchName) → IsStrictlySortedBy name_cmp xs → set.len (set.from_list {R = name_cmp} xs) ≡ length xs
unfolding IsStrictlySortedBy
len-ascending [] h = set.len-empty name_cmp
len-ascending (x ∷ xs) h =
    set.len-insert names_total (set.from_list xs) x
    ∙ ap (λ b. cond b (set.len (set.from_list {R = name_cmp} xs)) (set.len (set.from_list {R = name_cmp} xs) + 1)) (set.contains-from_list names_total xs x ∙ absent x xs h.0)
    ∙ ap (λ n. n + 1) (len-ascending xs h.1)
    ∙ omega arith

-- there are as many as the set has
pub length-in_order : (held : set.FinSet name_cmp) → length (in_order name_cmp held) ≡ set.len held
length-in_order held =
    let listed = listed_names held in
    sym (len-ascending (in_order name_cmp held) listed.ascending) ∙ ap set.len listed.same

-- ---- the set of a list of names

-- each name of the list's set is proper where those of the list are
pub proper-from_list : (xs : List BatchName) → All (λ name. IsTrue (is_proper_name name)) xs → (q : BatchName) → IsTrue (set.contains (set.from_list {R = name_cmp} xs) q) → IsTrue (is_proper_name q)
proper-from_list xs all q has = go xs all (sym (set.contains-from_list names_total xs q) ∙ has)
  where
    go : (xs : List BatchName) → All (λ name. IsTrue (is_proper_name name)) xs → list_any (eq_by_cmp name_cmp q) xs ≡ true → IsTrue (is_proper_name q)
    go [] all e = absurd cc
    go (x ∷ xs) all e =
        elim (eq_by_cmp name_cmp q x) as (λ b. eq_by_cmp name_cmp q x ≡ b → (b || list_any (eq_by_cmp name_cmp q) xs) ≡ true → IsTrue (is_proper_name q)) [
          | true ↦ λ tied _. subst (λ (n : BatchName). IsTrue (is_proper_name n)) (sym (exact_names q x ((Equal-is (name_cmp q x)).0 tied))) (all 0 x (omega arith))
          | false ↦ λ tied rest. go xs (λ k d below. all (suc k) d (omega (arith, below))) rest
        ] refl e

-- the set of one more name
pub held_more : (names : List BatchName) (i : ℕ) (d : BatchName) → i < length names → set.insert (set.from_list {R = name_cmp} (take i names)) (get_or names i d) ≡ set.from_list (take (i + 1) names)
held_more names i d below =
    sym (set.from_list_push names_total exact_names (take i names) (get_or names i d)) ∙ ap (λ (xs : List BatchName). set.from_list {R = name_cmp} xs) (sym (take_more names i d below))
