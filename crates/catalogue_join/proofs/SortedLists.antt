-- A set has one strictly ascending list: of two, the heads are the same, since the lesser would be missing in the other.
use Rattle.std.proofs.Common.{◌≡◌, inl, inr, false, ◌||◌, List, [], ◌∷◌, refl, sym, ap, ◌∙◌, subst}
use Rattle.std.proofs.lemmas.Bool.{or_from, or_left, cases_Bool, false≢true}
use Rattle.std.proofs.lemmas.Map.Keys.{sorted_head, sorted_tail}
use Rattle.std.specs.List.{list_any, AllByRecursion}
use Rattle.std.specs.List.Sorted.{IsStrictlySortedBy}
use Rattle.std.specs.Ordering.{eq_by_cmp, is_eq, ordering_reverse}
use Rattle.std.specs.Cmp.{IsTotalOrder, Equal-is, tied_itself}
use Rattle.std.specs.declared.cmp.Ordering.{Ordering}
use Rattle.std.specs.declared.cmp.Ordering.TheVariants.{Less, Equal, Greater}
use Rattle.std.specs.FinSet as set
use Rattle.table_model.specs.Name.{name_cmp}
use Rattle.table_model.specs.declared.names.BatchName.{BatchName}
use Rattle.table_model.proofs.NameOrder.{names_total, exact_names}
use Rattle.catalogue_join.specs.Held.{IsListOf}

module _ {K : Type 0} (R : K → K → Ordering) (o : IsTotalOrder R) (exact : (x y : K) → R x y ≡ Equal → x ≡ y) where
  -- what is below all of a list is not in it
  none_of_above : (q : K) (xs : List K) → AllByRecursion (λ y. R q y ≡ Less) xs → list_any (eq_by_cmp R q) xs ≡ false
  none_of_above q [] a = refl
  none_of_above q (x ∷ xs) a = or_from (eq_by_cmp R q x) (list_any (eq_by_cmp R q) xs) (ap is_eq a.0) (none_of_above q xs a.1)

  above_more : (q x : K) (xs : List K) → R q x ≡ Less → AllByRecursion (λ y. R x y ≡ Less) xs → AllByRecursion (λ y. R q y ≡ Less) xs
  above_more q x [] less a = tt
  above_more q x (y ∷ xs) less a = (o.trans q x y less a.0, above_more q x xs less a.1)

  -- the head of one is not below the head of the other
  not_below : (x y : K) (xs ys : List K) → IsStrictlySortedBy R (y ∷ ys) → ((q : K) → list_any (eq_by_cmp R q) (x ∷ xs) ≡ list_any (eq_by_cmp R q) (y ∷ ys)) → R x y ≡ Less → x ≡ y
  not_below x y xs ys sorted same less =
      let there = or_left (eq_by_cmp R x x) (list_any (eq_by_cmp R x) xs) (ap is_eq (tied_itself o x)) in
      let absent = none_of_above x (y ∷ ys) (less, above_more x y ys less (sorted_head R y ys sorted)) in
      absurd (false≢true (sym absent ∙ sym (same x) ∙ there))

  heads : (x y : K) (xs ys : List K) → IsStrictlySortedBy R (x ∷ xs) → IsStrictlySortedBy R (y ∷ ys) → ((q : K) → list_any (eq_by_cmp R q) (x ∷ xs) ≡ list_any (eq_by_cmp R q) (y ∷ ys)) → x ≡ y
  heads x y xs ys rx ry same =
      elim (R x y) as (λ r. R x y ≡ r → x ≡ y) [
        | Less ↦ λ e. not_below x y xs ys ry same e
        | Equal ↦ λ e. exact x y e
        | Greater ↦ λ e. sym (not_below y x ys xs rx (λ q. sym (same q)) (o.antisymm y x ∙ ap ordering_reverse e))
      ] refl

  tails : (q x : K) (xs ys : List K) → IsStrictlySortedBy R (x ∷ xs) → IsStrictlySortedBy R (x ∷ ys) → list_any (eq_by_cmp R q) (x ∷ xs) ≡ list_any (eq_by_cmp R q) (x ∷ ys) → list_any (eq_by_cmp R q) xs ≡ list_any (eq_by_cmp R q) ys
  tails q x xs ys rx ry same =
      elim (cases_Bool (eq_by_cmp R q x)) [
        | inl tied ↦
            let e = exact q x ((Equal-is (R q x)).0 tied) in
            let lacks = λ (zs : List K) (r : IsStrictlySortedBy R (x ∷ zs)). subst (λ (p : K). list_any (eq_by_cmp R p) zs ≡ false) (sym e) (none_of_above x zs (sorted_head R x zs r)) in
            lacks xs rx ∙ sym (lacks ys ry)
        | inr apart ↦ sym (ap (λ b. b || list_any (eq_by_cmp R q) xs) apart) ∙ same ∙ ap (λ b. b || list_any (eq_by_cmp R q) ys) apart
      ]

  -- two strictly ascending lists with the same members are the same
  pub same_sorted : (xs ys : List K) → IsStrictlySortedBy R xs → IsStrictlySortedBy R ys → ((q : K) → list_any (eq_by_cmp R q) xs ≡ list_any (eq_by_cmp R q) ys) → xs ≡ ys
  same_sorted [] [] rx ry same = refl
  same_sorted [] (y ∷ ys) rx ry same = absurd (false≢true (same y ∙ or_left (eq_by_cmp R y y) (list_any (eq_by_cmp R y) ys) (ap is_eq (tied_itself o y))))
  same_sorted (x ∷ xs) [] rx ry same = absurd (false≢true (sym (same x) ∙ or_left (eq_by_cmp R x x) (list_any (eq_by_cmp R x) xs) (ap is_eq (tied_itself o x))))
  same_sorted (x ∷ xs) (y ∷ ys) rx ry same =
      let e = heads x y xs ys rx ry same in
      let ry' = subst (λ (z : K). IsStrictlySortedBy R (z ∷ ys)) (sym e) ry in
      let same' = λ (q : K). tails q x xs ys rx ry' (same q ∙ ap (λ (z : K). list_any (eq_by_cmp R q) (z ∷ ys)) (sym e)) in
      let rest = same_sorted xs ys (sorted_tail R x xs rx) (sorted_tail R y ys ry) same' in
      λ i. e i ∷ rest i

-- a set of batch names has one list
pub only_list : (held : set.FinSet name_cmp) (xs ys : List BatchName) → IsListOf xs held → IsListOf ys held → xs ≡ ys
only_list held xs ys a b =
    same_sorted name_cmp names_total exact_names xs ys a.ascending b.ascending
    (λ q. sym (set.contains-from_list names_total xs q) ∙ ap (λ (s : set.FinSet name_cmp). set.contains s q) (a.same ∙ sym b.same) ∙ set.contains-from_list names_total ys q)
