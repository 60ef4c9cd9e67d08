-- A merge of two lists in order: one step of it, and that it is the union of the two maps.
use Rattle.std.specs.Prelude.{◌≡◌, suc, ◌+◌, ◌≤◌, Bool, true, false, cond, T, List, [], ◌∷◌, ◌++◌, length, reverse, Option, Some, None, is_some}
use Rattle.std.proofs.Common.{refl, sym, ap, subst, ◌∙◌, arith, append-nil, Less, Equal, Greater}
use Rattle.std.specs.Option.{option_to_list}
use Rattle.std.specs.Ordering.{is_lt, is_eq, eq_by_cmp, ordering_reverse}
use Rattle.std.specs.FinMap as map
use Rattle.std.specs.FinSet as set
use Rattle.std.specs.FinMap.Entries.{find, is_sorted, below_all}
use Rattle.std.proofs.lemmas.List.{reverse-append, nil_from_length}
use Rattle.table_model.specs.State.{union_of}
use Rattle.table_model.specs.Name.{name_cmp}
use Rattle.table_model.specs.declared.names.BatchName.{BatchName}
use Rattle.table_model.proofs.NameOrder.{names_total}
use Rattle.table_model.proofs.Joins.{or_else, get-union, same_maps}
use Rattle.table_model.proofs.Operations.{same_name}
use Rattle.replica_store.specs.Entries.{merge, takes_first}
use Rattle.replica_store.specs.Replica.{lacked_by, names_of}
use Rattle.replica_store.proofs.Maps.{Sorted, as_map, entries-as_map, get-as_map, len-as_map}
use Rattle.replica_store.proofs.Places.{first_of_both, second_of_both, both_of, less_is, is_less}
use Rattle.replica_store.proofs.Names.{contains-names_of}

-- of two names that differ, one is below the other
turned_below : (x y : BatchName) → is_lt (name_cmp x y) ≡ false → is_eq (name_cmp y x) ≡ false → name_cmp y x ≡ Less
turned_below x y over apart =
    elim (name_cmp x y) as (λ r. name_cmp x y ≡ r → is_lt r ≡ false → name_cmp y x ≡ Less) [
      | Less ↦ λ p n. cc
      | Equal ↦ λ p n. let tied : is_eq (name_cmp y x) ≡ true = ap is_eq (names_total.antisymm y x ∙ ap ordering_reverse p) in cc
      | Greater ↦ λ p n. names_total.antisymm y x ∙ ap ordering_reverse p
    ] refl over

module _ {X : Type 0} where
  pub merge-nil : (es : List (BatchName × X)) → merge name_cmp es [] ≡ es
  merge-nil [] = refl
  merge-nil (e ∷ es) = refl

  one_taken : (x : BatchName × X) (xs fs : List (BatchName × X)) → takes_first name_cmp (x ∷ xs) fs ≡ true → merge name_cmp (x ∷ xs) fs ≡ x ∷ merge name_cmp xs fs
  one_taken x xs [] is = ap (λ (rest : List (BatchName × X)). x ∷ rest) (sym (merge-nil xs))
  one_taken x xs (f ∷ fs) is = ap (λ b. cond b (x ∷ merge name_cmp xs (f ∷ fs)) (f ∷ merge name_cmp (x ∷ xs) fs)) is

  -- the first list's entry comes next
  pub merge-first : (xs new fs : List (BatchName × X)) (r : Option (BatchName × X)) → xs ≡ new ++ option_to_list r → takes_first name_cmp (reverse xs) fs ≡ true →
      merge name_cmp (reverse xs) fs ≡ option_to_list r ++ merge name_cmp (reverse new) fs
  merge-first xs new fs None is taken = ap (λ (ys : List (BatchName × X)). merge name_cmp (reverse ys) fs) (is ∙ append-nil new)
  merge-first xs new fs (Some x) is taken =
      let turned : reverse xs ≡ x ∷ reverse new = ap reverse is ∙ reverse-append new (x ∷ []) in
      ap (λ (ys : List (BatchName × X)). merge name_cmp ys fs) turned ∙ one_taken x (reverse new) fs (sym (ap (λ (ys : List (BatchName × X)). takes_first name_cmp ys fs) turned) ∙ taken)

  -- no entry of the second list has a name of the first
  abbrev pub Apart : List (BatchName × X) → List (BatchName × X) → Type 0
  Apart es [] = Unit {0}
  Apart es (f ∷ fs) = (map.find name_cmp f.0 es ≡ None) × Apart es fs

  none_later : (b : Bool) (v : X) (o : Option X) → cond b (Some v) o ≡ None → (b ≡ false) × (o ≡ None)
  none_later true v o e = cc
  none_later false v o e = (refl, e)

  Apart-tail : (e : BatchName × X) (es fs : List (BatchName × X)) → Apart (e ∷ es) fs → Apart es fs
  Apart-tail e es [] h = tt
  Apart-tail e es (f ∷ fs) h = ((none_later (eq_by_cmp name_cmp f.0 e.0) e.1 (map.find name_cmp f.0 es) h.0).1, Apart-tail e es fs h.1)

  below_all-merge : (x : BatchName) (es fs : List (BatchName × X)) → T (below_all name_cmp x es) → T (below_all name_cmp x fs) → T (below_all name_cmp x (merge name_cmp es fs))
  below_all-merge x [] fs g h = h
  below_all-merge x (e ∷ es) [] g h = g
  below_all-merge x (e ∷ es) (f ∷ fs) g h =
      elim (is_lt (name_cmp e.0 f.0)) as (λ b. T (below_all name_cmp x (cond b (e ∷ merge name_cmp es (f ∷ fs)) (f ∷ merge name_cmp (e ∷ es) fs)))) [
        | true ↦ both_of _ _ (first_of_both (is_lt (name_cmp x e.0)) (below_all name_cmp x es) g) (below_all-merge x es (f ∷ fs) (second_of_both (is_lt (name_cmp x e.0)) (below_all name_cmp x es) g) h)
        | false ↦ both_of _ _ (first_of_both (is_lt (name_cmp x f.0)) (below_all name_cmp x fs) h) (below_all-merge x (e ∷ es) fs g (second_of_both (is_lt (name_cmp x f.0)) (below_all name_cmp x fs) h))
      ]

  pub below_from : (x y : BatchName) (es : List (BatchName × X)) → name_cmp x y ≡ Less → T (below_all name_cmp y es) → T (below_all name_cmp x es)
  below_from x y [] p h = tt
  below_from x y (e ∷ es) p h = both_of _ _ (is_less _ (names_total.trans x y e.0 p (less_is _ (first_of_both (is_lt (name_cmp y e.0)) (below_all name_cmp y es) h)))) (below_from x y es p (second_of_both (is_lt (name_cmp y e.0)) (below_all name_cmp y es) h))

  pub Sorted-merge : (es fs : List (BatchName × X)) → Sorted es → Sorted fs → Apart es fs → Sorted (merge name_cmp es fs)
  Sorted-merge [] fs g h apart = h
  Sorted-merge (e ∷ es) [] g h apart = g
  Sorted-merge (e ∷ es) (f ∷ fs) g h apart =
      elim (is_lt (name_cmp e.0 f.0)) as (λ b. is_lt (name_cmp e.0 f.0) ≡ b → Sorted (cond b (e ∷ merge name_cmp es (f ∷ fs)) (f ∷ merge name_cmp (e ∷ es) fs))) [
        | true ↦ λ t.
            let less = less_is _ (subst T (sym t) tt) in
            let after = both_of (is_lt (name_cmp e.0 f.0)) (below_all name_cmp e.0 fs) (is_less _ less) (below_from e.0 f.0 fs less (first_of_both (below_all name_cmp f.0 fs) (is_sorted name_cmp fs) h)) in
            both_of _ _ (below_all-merge e.0 es (f ∷ fs) (first_of_both (below_all name_cmp e.0 es) (is_sorted name_cmp es) g) after)
            (Sorted-merge es (f ∷ fs) (second_of_both (below_all name_cmp e.0 es) (is_sorted name_cmp es) g) h (Apart-tail e es (f ∷ fs) apart))
        | false ↦ λ t.
            let less = turned_below e.0 f.0 t (none_later (eq_by_cmp name_cmp f.0 e.0) e.1 (map.find name_cmp f.0 es) apart.0).0 in
            let after = both_of (is_lt (name_cmp f.0 e.0)) (below_all name_cmp f.0 es) (is_less _ less) (below_from f.0 e.0 es less (first_of_both (below_all name_cmp e.0 es) (is_sorted name_cmp es) g)) in
            both_of _ _ (below_all-merge f.0 (e ∷ es) fs after (first_of_both (below_all name_cmp f.0 fs) (is_sorted name_cmp fs) h))
            (Sorted-merge (e ∷ es) fs g (second_of_both (below_all name_cmp f.0 fs) (is_sorted name_cmp fs) h) apart.1)
      ] refl

  first_later : (b : Bool) (v : X) (a o p : Option X) → p ≡ or_else a o → (b ≡ true → a ≡ None) → cond b (Some v) p ≡ or_else a (cond b (Some v) o)
  first_later true v a o p is none = sym (ap (λ x. or_else x (Some v)) (none refl))
  first_later false v a o p is none = is

  pub find-merge : (q : BatchName) (es fs : List (BatchName × X)) → Apart es fs → map.find name_cmp q (merge name_cmp es fs) ≡ or_else (map.find name_cmp q es) (map.find name_cmp q fs)
  find-merge q [] fs apart = refl
  find-merge q (e ∷ es) [] apart = elim (map.find name_cmp q (e ∷ es)) as (λ o. o ≡ or_else o None) [ None ↦ refl | Some v ↦ refl ]
  find-merge q (e ∷ es) (f ∷ fs) apart =
      elim (is_lt (name_cmp e.0 f.0)) as (λ b. map.find name_cmp q (cond b (e ∷ merge name_cmp es (f ∷ fs)) (f ∷ merge name_cmp (e ∷ es) fs)) ≡ or_else (map.find name_cmp q (e ∷ es)) (map.find name_cmp q (f ∷ fs))) [
        | true ↦ let rest = find-merge q es (f ∷ fs) (Apart-tail e es (f ∷ fs) apart) in
            elim (eq_by_cmp name_cmp q e.0) as (λ b. cond b (Some e.1) (map.find name_cmp q (merge name_cmp es (f ∷ fs))) ≡ or_else (cond b (Some e.1) (map.find name_cmp q es)) (map.find name_cmp q (f ∷ fs))) [ true ↦ refl | false ↦ rest ]
        | false ↦ first_later (eq_by_cmp name_cmp q f.0) f.1 (map.find name_cmp q (e ∷ es)) (map.find name_cmp q fs) (map.find name_cmp q (merge name_cmp (e ∷ es) fs)) (find-merge q (e ∷ es) fs apart.1)
            (λ tied. ap (λ n. map.find name_cmp n (e ∷ es)) (same_name q f.0 tied) ∙ apart.0)
      ]

  length-merge : (es fs : List (BatchName × X)) → length (merge name_cmp es fs) ≡ length es + length fs
  length-merge [] fs = omega arith
  length-merge (e ∷ es) [] = omega arith
  length-merge (e ∷ es) (f ∷ fs) =
      elim (is_lt (name_cmp e.0 f.0)) as (λ b. length (cond b (e ∷ merge name_cmp es (f ∷ fs)) (f ∷ merge name_cmp (e ∷ es) fs)) ≡ suc (length es) + suc (length fs)) [
        | true ↦ let rest = length-merge es (f ∷ fs) in omega arith
        | false ↦ let rest = length-merge (e ∷ es) fs in omega arith
      ]

  not_some : (o : Option X) → is_some o ≡ false → o ≡ None
  not_some None e = refl
  not_some (Some v) e = cc

  -- what the map lacks is apart from its entries
  Apart-lacked : (es fs : List (BatchName × X)) → Sorted es → Apart es (lacked_by (names_of (as_map es)) fs)
  Apart-lacked es [] g = tt
  Apart-lacked es (f ∷ fs) g =
      let names = names_of (as_map es) in
      elim (set.contains names f.0) as (λ b. set.contains names f.0 ≡ b → Apart es (cond b (lacked_by names fs) (f ∷ lacked_by names fs))) [
        | true ↦ λ t. Apart-lacked es fs g
        | false ↦ λ t. (sym (get-as_map es f.0 g) ∙ not_some (map.get (as_map es) f.0) (sym (contains-names_of (as_map es) f.0) ∙ t), Apart-lacked es fs g)
      ] refl

  below_all-lacked : (names : set.FinSet name_cmp) (x : BatchName) (fs : List (BatchName × X)) → T (below_all name_cmp x fs) → T (below_all name_cmp x (lacked_by names fs))
  below_all-lacked names x [] h = tt
  below_all-lacked names x (f ∷ fs) h =
      let rest = below_all-lacked names x fs (second_of_both (is_lt (name_cmp x f.0)) (below_all name_cmp x fs) h) in
      elim (set.contains names f.0) as (λ b. T (below_all name_cmp x (cond b (lacked_by names fs) (f ∷ lacked_by names fs)))) [
        | true ↦ rest
        | false ↦ both_of _ _ (first_of_both (is_lt (name_cmp x f.0)) (below_all name_cmp x fs) h) rest
      ]

  -- what is lacked stays in order
  pub Sorted-lacked : (names : set.FinSet name_cmp) (fs : List (BatchName × X)) → Sorted fs → Sorted (lacked_by names fs)
  Sorted-lacked names [] h = tt
  Sorted-lacked names (f ∷ fs) h =
      let rest = Sorted-lacked names fs (second_of_both (below_all name_cmp f.0 fs) (is_sorted name_cmp fs) h) in
      elim (set.contains names f.0) as (λ b. Sorted (cond b (lacked_by names fs) (f ∷ lacked_by names fs))) [
        | true ↦ rest
        | false ↦ both_of _ _ (below_all-lacked names f.0 fs (first_of_both (below_all name_cmp f.0 fs) (is_sorted name_cmp fs) h)) rest
      ]

  -- what the set has isn't found among what it lacks, and all else as before
  pub find-lacked : (names : set.FinSet name_cmp) (q : BatchName) (fs : List (BatchName × X)) → map.find name_cmp q (lacked_by names fs) ≡ cond (set.contains names q) None (map.find name_cmp q fs)
  find-lacked names q [] = elim (set.contains names q) as (λ b. ◌≡◌ {A = Option X} None (cond b None None)) [ true ↦ refl | false ↦ refl ]
  find-lacked names q (f ∷ fs) =
      let rest = find-lacked names q fs in
      elim (set.contains names f.0) as (λ b. set.contains names f.0 ≡ b → map.find name_cmp q (cond b (lacked_by names fs) (f ∷ lacked_by names fs)) ≡ cond (set.contains names q) None (map.find name_cmp q (f ∷ fs))) [
        | true ↦ λ t. elim (eq_by_cmp name_cmp q f.0) as (λ b. eq_by_cmp name_cmp q f.0 ≡ b → map.find name_cmp q (lacked_by names fs) ≡ cond (set.contains names q) None (cond b (Some f.1) (map.find name_cmp q fs))) [
          | true ↦ λ tied.
              let held : set.contains names q ≡ true = ap (set.contains names) (same_name q f.0 tied) ∙ t in
              rest ∙ ap (λ b. cond b None (map.find name_cmp q fs)) held ∙ sym (ap (λ b. cond b None (Some f.1)) held)
          | false ↦ λ tied. rest
        ] refl
        | false ↦ λ t. elim (eq_by_cmp name_cmp q f.0) as (λ b. eq_by_cmp name_cmp q f.0 ≡ b → cond b (Some f.1) (map.find name_cmp q (lacked_by names fs)) ≡ cond (set.contains names q) None (cond b (Some f.1) (map.find name_cmp q fs))) [
          | true ↦ λ tied.
              let free : set.contains names q ≡ false = ap (set.contains names) (same_name q f.0 tied) ∙ t in
              sym (ap (λ b. cond b None (Some f.1)) free)
          | false ↦ λ tied. rest
        ] refl
      ] refl

  lacked_or : (m : map.FinMap name_cmp X) (q : BatchName) (fs : List (BatchName × X)) (o : Option X) → map.get m q ≡ o → or_else o (map.find name_cmp q (lacked_by (names_of m) fs)) ≡ or_else o (map.find name_cmp q fs)
  lacked_or m q fs None is = find-lacked (names_of m) q fs ∙ ap (λ b. cond b None (map.find name_cmp q fs)) (contains-names_of m q ∙ ap is_some is)
  lacked_or m q fs (Some v) is = refl

  -- the entries that are there, merged with those that are lacked, are the union's
  pub as_map-merge : (es : List (BatchName × X)) (n : map.FinMap name_cmp X) → Sorted es → as_map (merge name_cmp es (lacked_by (names_of (as_map es)) (map.entries n))) ≡ union_of (as_map es) n
  as_map-merge es n g = same_maps _ _ (λ q.
      let fs = map.entries n in
      let apart = Apart-lacked es fs g in
      let sorted = Sorted-merge es (lacked_by (names_of (as_map es)) fs) g (Sorted-lacked (names_of (as_map es)) fs (map.entries_sorted n)) apart in
      get-as_map _ q sorted
      ∙ find-merge q es (lacked_by (names_of (as_map es)) fs) apart
      ∙ ap (λ o. or_else o (map.find name_cmp q (lacked_by (names_of (as_map es)) fs))) (sym (get-as_map es q g))
      ∙ lacked_or (as_map es) q fs (map.get (as_map es) q) refl
      ∙ ap (or_else (map.get (as_map es) q)) (sym (map.get-entries n q))
      ∙ sym (get-union (as_map es) n q))

  pub Sorted-union : (es : List (BatchName × X)) (n : map.FinMap name_cmp X) → Sorted es → Sorted (merge name_cmp es (lacked_by (names_of (as_map es)) (map.entries n)))
  Sorted-union es n g = Sorted-merge es _ g (Sorted-lacked (names_of (as_map es)) (map.entries n) (map.entries_sorted n)) (Apart-lacked es (map.entries n) g)

  pub map_of_entries : (m : map.FinMap name_cmp X) → as_map (map.entries m) ≡ m
  map_of_entries m = map.same_entries_map _ _ (entries-as_map (map.entries m) (map.entries_sorted m))

  -- how many batches a union has
  pub len-union : (m n : map.FinMap name_cmp X) → map.len (union_of m n) ≡ map.len m + length (lacked_by (names_of m) (map.entries n))
  len-union m n =
      let es = map.entries m in
      let g = map.entries_sorted m in
      let same = map_of_entries m in
      let by_entries : map.len (union_of (as_map es) n) ≡ map.len (as_map es) + length (lacked_by (names_of (as_map es)) (map.entries n)) =
      ap map.len (sym (as_map-merge es n g)) ∙ len-as_map _ (Sorted-union es n g) ∙ length-merge es _ ∙ ap (λ k. k + length (lacked_by (names_of (as_map es)) (map.entries n))) (sym (len-as_map es g)) in
      subst (λ (x : map.FinMap name_cmp X). map.len (union_of x n) ≡ map.len x + length (lacked_by (names_of x) (map.entries n))) same by_entries

  -- a union that has no more batches than the one is the one
  pub union-same : (m n : map.FinMap name_cmp X) → map.len (union_of m n) ≤ map.len m → union_of m n ≡ m
  union-same m n few =
      let fs = map.entries n in
      let none : lacked_by (names_of m) fs ≡ [] = nil_from_length (lacked_by (names_of m) fs) (omega (arith, len-union m n)) in
      same_maps (union_of m n) m (λ q.
      get-union m n q
      ∙ ap (or_else (map.get m q)) (map.get-entries n q)
      ∙ sym (lacked_or m q fs (map.get m q) refl)
      ∙ ap (λ (xs : List (BatchName × X)). or_else (map.get m q) (map.find name_cmp q xs)) none
      ∙ or_none (map.get m q)) where
        or_none : (o : Option X) → or_else o None ≡ o
        or_none None = refl
        or_none (Some x) = refl

  -- so is a union with entries none of which it lacks
  pub union-nothing : (m : map.FinMap name_cmp X) (fs : List (BatchName × X)) → Sorted fs → lacked_by (names_of m) fs ≡ [] → union_of m (as_map fs) ≡ m
  union-nothing m fs sorted none =
      let all : map.entries (as_map fs) ≡ fs = entries-as_map fs sorted in
      let few : length (lacked_by (names_of m) (map.entries (as_map fs))) ≡ 0 = ap (λ (xs : List (BatchName × X)). length (lacked_by (names_of m) xs)) all ∙ ap length none in
      union-same m (as_map fs) (omega (arith, len-union m (as_map fs), few))
