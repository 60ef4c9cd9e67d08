-- Entries in the order of their keys: how many are below a key, what is found there, and how two lists in order become one.
use Rattle.std.specs.Prelude.{◌≡◌, ◌⊎◌, ℕ, zero, suc, ◌<◌, ◌≤◌, Bool, true, false, cond, T, List, [], ◌∷◌, length, Option, Some, None, drop}
use Rattle.std.proofs.Common.{refl, sym, ap, ◌∙◌, inl, inr, arith, get_or, Less, Equal, Greater}
use Rattle.std.specs.List.{insert}
use Rattle.std.specs.List.Sorted.{IsPartitionedBy}
use Rattle.std.specs.Ordering.{is_lt, is_eq, ordering_reverse}
use Rattle.std.specs.Cmp.{IsTotalOrder}
use Rattle.std.specs.declared.cmp.Ordering.{Ordering}
use Rattle.std.specs.FinMap.Entries.{find, put, is_sorted, below_all, by_order}
use Rattle.std.proofs.lemmas.Bool.{cases_lt}
pub use Rattle.std.specs.Bool.{passes}
pub use Rattle.table_model.proofs.Passed.{true_from_T, first_of_both, second_of_both, both_of, less_is, is_less}
use Rattle.replica_store.specs.Entries.{count_below}

turned : {K : Type 0} {R : K → K → Ordering} → IsTotalOrder R → (x y : K) (r : Ordering) → R x y ≡ r → R y x ≡ ordering_reverse r
turned o x y r e = o.antisymm y x ∙ ap ordering_reverse e

pub cases_le : (i j : ℕ) → i ≤ j → (i < j) ⊎ (i ≡ j)
cases_le i j le = elim (cases_lt i j) as (λ _. (i < j) ⊎ (i ≡ j)) [ inl lt ↦ inl lt | inr ge ↦ inr (omega arith) ]

module _ {K X : Type 0} (R : K → K → Ordering) where
  -- whether an entry's key is below q
  abbrev pub is_below : K → K × X → Bool
  is_below q e = is_lt (R e.0 q)

  -- a place with keys below q before it and none from it on is where that count ends
  pub place_is : (q : K) (es : List (K × X)) (i : ℕ) → i ≤ length es →
      ((k : ℕ) (d : K × X) → 0 ≤ k → k < i → is_below q (get_or es k d) ≡ true) →
      ((k : ℕ) (d : K × X) → i ≤ k → k < length es → is_below q (get_or es k d) ≡ false) → i ≡ count_below R q es
  place_is q [] i le before after = omega arith
  place_is q (e ∷ es) zero le before after = ap (λ b. cond b (suc (count_below R q es)) 0) (sym (after 0 e (omega arith) (omega arith)))
  place_is q (e ∷ es) (suc i) le before after =
      ap suc (place_is q es i (omega arith) (λ k d low high. before (suc k) d (omega arith) (omega arith)) (λ k d low high. after (suc k) d (omega arith) (omega arith)))
      ∙ ap (λ b. cond b (suc (count_below R q es)) 0) (sym (before 0 e (omega arith) (omega arith)))

  pub count_below-le : (q : K) (es : List (K × X)) → count_below R q es ≤ length es
  count_below-le q [] = omega arith
  count_below-le q (e ∷ es) = elim (is_lt (R e.0 q)) as (λ b. cond b (suc (count_below R q es)) 0 ≤ suc (length es)) [ true ↦ let rest = count_below-le q es in omega arith | false ↦ omega arith ]

  module _ (o : IsTotalOrder R) where
    below_from : (x y : K) (es : List (K × X)) → R x y ≡ Less → T (below_all R y es) → T (below_all R x es)
    below_from x y [] p h = tt
    below_from x y (e ∷ es) p h = both_of _ _ (is_less _ (o.trans x y e.0 p (less_is _ (first_of_both _ _ h)))) (below_from x y es p (second_of_both (is_lt (R y e.0)) (below_all R y es) h))

    below_at : (x : K) (es : List (K × X)) (j : ℕ) (d : K × X) → T (below_all R x es) → j < length es → R x (get_or es j d).0 ≡ Less
    below_at x [] j d h lt = absurd (omega arith)
    below_at x (e ∷ es) zero d h lt = less_is _ (first_of_both (is_lt (R x e.0)) (below_all R x es) h)
    below_at x (e ∷ es) (suc j) d h lt = below_at x es j d (second_of_both (is_lt (R x e.0)) (below_all R x es) h) (omega arith)

    -- earlier keys are below later ones
    pub sorted_at : (es : List (K × X)) (i j : ℕ) (d : K × X) → T (is_sorted R es) → i < j → j < length es → R (get_or es i d).0 (get_or es j d).0 ≡ Less
    sorted_at [] i j d h lt in_range = absurd (omega arith)
    sorted_at (e ∷ es) i zero d h lt in_range = absurd (omega arith)
    sorted_at (e ∷ es) zero (suc j) d h lt in_range = below_at e.0 es j d (first_of_both (below_all R e.0 es) (is_sorted R es) h) (omega arith)
    sorted_at (e ∷ es) (suc i) (suc j) d h lt in_range = sorted_at es i j d (second_of_both (below_all R e.0 es) (is_sorted R es) h) (omega arith) (omega arith)

    -- what a binary search asks
    pub parted : (q : K) (es : List (K × X)) → T (is_sorted R es) → IsPartitionedBy (is_below q) es
    parted q es h i j d le in_range is =
        elim (cases_le i j le) as (λ _. is_below q (get_or es i d) ≡ true) [
          | inl lt ↦ true_from_T _ (is_less _ (o.trans _ _ _ (sorted_at es i j d h lt in_range) (less_is _ (passes _ is))))
          | inr same ↦ ap (λ k. is_below q (get_or es k d)) same ∙ is
        ]

    -- a key below each key isn't found
    pub find_below : (q : K) (es : List (K × X)) → T (below_all R q es) → find R q es ≡ None
    find_below q [] h = refl
    find_below q (e ∷ es) h = ap (λ r. cond (is_eq r) (Some e.1) (find R q es)) (less_is _ (first_of_both (is_lt (R q e.0)) (below_all R q es) h)) ∙ find_below q es (second_of_both (is_lt (R q e.0)) (below_all R q es) h)

  -- the value of the first entry, where it has the key
  abbrev pub first_with : K → List (K × X) → Option X
  first_with q [] = None
  first_with q (e ∷ es) = cond (is_eq (R q e.0)) (Some e.1) None

  module _ (o : IsTotalOrder R) where
    -- a key is found exactly at the place where the keys below it end
    pub find-place : (q : K) (es : List (K × X)) → T (is_sorted R es) → find R q es ≡ first_with q (drop (count_below R q es) es)
    find-place q [] h = refl
    find-place q (e ∷ es) h =
        elim (R e.0 q) as (λ r. R e.0 q ≡ r → cond (is_eq (R q e.0)) (Some e.1) (find R q es) ≡ first_with q (drop (cond (is_lt r) (suc (count_below R q es)) 0) (e ∷ es))) [
          | Less ↦ λ p. ap (λ s. cond (is_eq s) (Some e.1) (find R q es)) (turned o e.0 q Less p) ∙ find-place q es (second_of_both (below_all R e.0 es) (is_sorted R es) h)
          | Equal ↦ λ p. let tied = turned o e.0 q Equal p in ap (λ s. cond (is_eq s) (Some e.1) (find R q es)) tied ∙ sym (ap (λ s. cond (is_eq s) (Some e.1) None) tied)
          | Greater ↦ λ p. let under = turned o e.0 q Greater p in
              ap (λ s. cond (is_eq s) (Some e.1) (find R q es)) under
              ∙ find_below o q es (below_from o q e.0 es under (first_of_both (below_all R e.0 es) (is_sorted R es) h))
              ∙ sym (ap (λ s. cond (is_eq s) (Some e.1) None) under)
        ] refl

    -- an entry whose key isn't there goes in at that place
    pub insert-place : (q : K) (v : X) (es : List (K × X)) → T (is_sorted R es) → find R q es ≡ None → insert es (count_below R q es) (q, v) ≡ put R q v es
    insert-place q v [] h none = refl
    insert-place q v (e ∷ es) h none =
        elim (R e.0 q) as (λ r. R e.0 q ≡ r → insert (e ∷ es) (cond (is_lt r) (suc (count_below R q es)) 0) (q, v) ≡ by_order (R q e.0) ((q, v) ∷ e ∷ es) ((e.0, v) ∷ es) (e ∷ put R q v es)) [
          | Less ↦ λ p.
              let over = turned o e.0 q Less p in
              let none_later : find R q es ≡ None = sym (ap (λ s. cond (is_eq s) (Some e.1) (find R q es)) over) ∙ none in
              ap (λ (rest : List (K × X)). e ∷ rest) (insert-place q v es (second_of_both (below_all R e.0 es) (is_sorted R es) h) none_later)
              ∙ sym (ap (λ s. by_order s ((q, v) ∷ e ∷ es) ((e.0, v) ∷ es) (e ∷ put R q v es)) over)
          | Equal ↦ λ p. let found : Some e.1 ≡ None = sym (ap (λ s. cond (is_eq s) (Some e.1) (find R q es)) (turned o e.0 q Equal p)) ∙ none in cc
          | Greater ↦ λ p. sym (ap (λ s. by_order s ((q, v) ∷ e ∷ es) ((e.0, v) ∷ es) (e ∷ put R q v es)) (turned o e.0 q Greater p))
        ] refl

module _ {K X : Type 0} (R : K → K → Ordering) (o : IsTotalOrder R) where
  -- what is found, from the entries that begin at the place
  pub find-from : (q : K) (es rest : List (K × X)) → T (is_sorted R es) → rest ≡ drop (count_below R q es) es → find R q es ≡ first_with R q rest
  find-from q es rest h is = find-place R o q es h ∙ ap (first_with R q) (sym is)

  pub find-none : (q : K) (es rest : List (K × X)) → T (is_sorted R es) → rest ≡ drop (count_below R q es) es → length rest ≡ 0 → None ≡ find R q es
  find-none q es [] h is none = sym (find-from q es [] h is)
  find-none q es (e ∷ rest) h is none = absurd (omega arith)

  pub find-first : (q : K) (es rest others : List (K × X)) (e : K × X) → T (is_sorted R es) → rest ≡ drop (count_below R q es) es → rest ≡ e ∷ others → is_eq (R q e.0) ≡ true → Some e.1 ≡ find R q es
  find-first q es rest others e h is cut tied = sym (find-from q es rest h is ∙ ap (first_with R q) cut ∙ ap (λ b. cond b (Some e.1) None) tied)

  pub find-other : (q : K) (es rest others : List (K × X)) (e : K × X) → T (is_sorted R es) → rest ≡ drop (count_below R q es) es → rest ≡ e ∷ others → is_eq (R q e.0) ≡ false → None ≡ find R q es
  find-other q es rest others e h is cut apart = sym (find-from q es rest h is ∙ ap (first_with R q) cut ∙ ap (λ b. cond b (Some e.1) None) apart)
