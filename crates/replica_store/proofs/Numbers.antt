-- Among batches in order, the last one of an origin has its greatest number.
use Rattle.std.specs.Prelude.{◌≡◌, ◌⊎◌, ℕ, suc, ◌<◌, ◌≤◌, max, Bool, true, false, cond, ◌==◌, nat_le, T, List, [], ◌∷◌, ◌++◌, length, take, drop, ◌+◌}
use Rattle.std.proofs.Common.{refl, sym, ap, subst, ◌∙◌, inl, inr, arith, append_assoc, get_or, Less, Equal, Greater}
use Rattle.std.specs.Ordering.{nat_cmp, is_lt, ordering_then}
use Rattle.std.specs.declared.cmp.Ordering.{Ordering}
use Rattle.std.specs.List.Sorted.{IsPartitionedBy}
use Rattle.std.proofs.lemmas.Bool.{cases_lt}
use Rattle.std.proofs.lemmas.Bool.Decides.{nat_tests}
use Rattle.std.proofs.lemmas.Cmp.{ranked}
use Rattle.std.proofs.lemmas.List.{take-append-drop, get_or-drop, length-take-le, length-append, length-drop}
use Rattle.std.proofs.Math.Seq.{get_or-append_seam}
use Rattle.std.specs.FinMap.Entries.{is_sorted, below_all}
use Rattle.table_model.specs.Name.{name_cmp}
use Rattle.table_model.specs.declared.names.Origin.{Origin}
use Rattle.table_model.specs.declared.names.BatchName.{BatchName}
use Rattle.table_model.proofs.NameOrder.{names_total}
use Rattle.replica_store.specs.Replica.{greatest_number}
use Rattle.replica_store.proofs.Maps.{Sorted}
use Rattle.replica_store.proofs.Places.{first_of_both, second_of_both, less_is, sorted_at, cases_le}

less_parts : (r t : Ordering) → ordering_then r t ≡ Less → (r ≡ Less) ⊎ ((r ≡ Equal) × (t ≡ Less))
less_parts Less t e = inl refl
less_parts Equal t e = inr (refl, e)
less_parts Greater t e = cc

-- what it says of two names that one is below the other
below_name : (a b : BatchName) → name_cmp a b ≡ Less → (a.origin.0 < b.origin.0) ⊎ ((a.origin.0 ≡ b.origin.0) × (a.number.0 < b.number.0))
below_name a b e =
    elim (less_parts (nat_cmp a.origin.0 b.origin.0) (nat_cmp a.number.0 b.number.0) e) as (λ _. (a.origin.0 < b.origin.0) ⊎ ((a.origin.0 ≡ b.origin.0) × (a.number.0 < b.number.0))) [
      | inl less ↦ inl (ranked a.origin.0 b.origin.0 Less (sym less))
      | inr parts ↦ inr (ranked a.origin.0 b.origin.0 Equal (sym parts.0), ranked a.number.0 b.number.0 Less (sym parts.1))
    ]

module _ {X : Type 0} where
  -- each entry before another one in order is below it
  below_later : (x : BatchName) (xs ys : List (BatchName × X)) (y : BatchName × X) → T (below_all name_cmp x (xs ++ y ∷ ys)) → name_cmp x y.0 ≡ Less
  below_later x [] ys y h = less_is _ (first_of_both (is_lt (name_cmp x y.0)) (below_all name_cmp x ys) h)
  below_later x (e ∷ xs) ys y h = below_later x xs ys y (second_of_both (is_lt (name_cmp x e.0)) (below_all name_cmp x (xs ++ y ∷ ys)) h)

  abbrev number_at : Origin → BatchName × X → ℕ
  number_at own e = cond (e.0.origin.0 == own.0) e.0.number.0 0

  -- entries before one of the origin have no greater number
  before_own : (own : Origin) (xs ys : List (BatchName × X)) (y : BatchName × X) → Sorted (xs ++ y ∷ ys) → y.0.origin.0 ≡ own.0 → greatest_number own xs ≤ y.0.number.0
  before_own own [] ys y h same = omega arith
  before_own own (x ∷ xs) ys y h same =
      let below = below_name x.0 y.0 (below_later x.0 xs ys y (first_of_both (below_all name_cmp x.0 (xs ++ y ∷ ys)) (is_sorted name_cmp (xs ++ y ∷ ys)) h)) in
      let rest = before_own own xs ys y (second_of_both (below_all name_cmp x.0 (xs ++ y ∷ ys)) (is_sorted name_cmp (xs ++ y ∷ ys)) h) same in
      grind (arith, nat_tests)

  -- entries before one of a lesser origin aren't of this one
  before_lesser : (own : Origin) (xs ys : List (BatchName × X)) (y : BatchName × X) → Sorted (xs ++ y ∷ ys) → y.0.origin.0 < own.0 → greatest_number own xs ≡ 0
  before_lesser own [] ys y h less = refl
  before_lesser own (x ∷ xs) ys y h less =
      let below = below_name x.0 y.0 (below_later x.0 xs ys y (first_of_both (below_all name_cmp x.0 (xs ++ y ∷ ys)) (is_sorted name_cmp (xs ++ y ∷ ys)) h)) in
      let rest = before_lesser own xs ys y (second_of_both (below_all name_cmp x.0 (xs ++ y ∷ ys)) (is_sorted name_cmp (xs ++ y ∷ ys)) h) less in
      grind (arith, nat_tests)

  -- entries of greater origins aren't of this one
  none_after : (own : Origin) (ys : List (BatchName × X)) → ((k : ℕ) (d : BatchName × X) → k < length ys → nat_le (get_or ys k d).0.origin.0 own.0 ≡ false) → greatest_number own ys ≡ 0
  none_after own [] h = refl
  none_after own (y ∷ ys) h =
      let here = h 0 y (omega arith) in
      let rest = none_after own ys (λ k d lt. h (suc k) d (omega arith)) in
      grind (arith, nat_tests)

  pub greatest-append : (own : Origin) (xs ys : List (BatchName × X)) → greatest_number own (xs ++ ys) ≡ max (greatest_number own xs) (greatest_number own ys)
  greatest-append own [] ys = omega arith
  greatest-append own (x ∷ xs) ys = let rest = greatest-append own xs ys in omega arith

  -- whether an entry's origin isn't greater
  abbrev pub is_up_to : Origin → BatchName × X → Bool
  is_up_to own e = nat_le e.0.origin.0 own.0

  -- what a binary search asks
  pub parted_by_origin : (own : Origin) (es : List (BatchName × X)) → Sorted es → IsPartitionedBy (is_up_to own) es
  parted_by_origin own es h i j d le in_range is =
      elim (cases_le i j le) as (λ _. is_up_to own (get_or es i d) ≡ true) [
        | inl lt ↦
            let below = below_name (get_or es i d).0 (get_or es j d).0 (sorted_at name_cmp names_total es i j d h lt in_range) in
            grind (arith, nat_tests)
        | inr same ↦ ap (λ k. is_up_to own (get_or es k d)) same ∙ is
      ]

  parts_of : (es : List (BatchName × X)) (i : ℕ) (rest : List (BatchName × X)) (y : BatchName × X) → take i es ≡ rest ++ (y ∷ []) → es ≡ rest ++ (y ∷ drop i es)
  parts_of es i rest y is = sym (take-append-drop i es) ∙ ap (λ xs. xs ++ drop i es) is ∙ append_assoc rest (y ∷ []) (drop i es)

  -- where no entry has an origin up to this one, there is no number
  pub none_up_to : (own : Origin) (es up_to : List (BatchName × X)) (i : ℕ) → i ≤ length es → up_to ≡ take i es → length up_to ≡ 0 →
      ((k : ℕ) (d : BatchName × X) → i ≤ k → k < length es → is_up_to own (get_or es k d) ≡ false) → 0 ≡ greatest_number own es
  none_up_to own es up_to i le is none after =
      let at_start : i ≡ 0 = omega (arith, ap length is, length-take-le i es le) in
      sym (none_after own es (λ k d lt. after k d (omega arith) lt))

  -- the last entry with an origin up to this one has the number, if the origin is this one
  pub last_up_to : (own : Origin) (es up_to rest : List (BatchName × X)) (y : BatchName × X) (i : ℕ) → Sorted es → i ≤ length es → up_to ≡ take i es → up_to ≡ rest ++ (y ∷ []) →
      ((k : ℕ) (d : BatchName × X) → 0 ≤ k → k < i → is_up_to own (get_or es k d) ≡ true) →
      ((k : ℕ) (d : BatchName × X) → i ≤ k → k < length es → is_up_to own (get_or es k d) ≡ false) →
      number_at own y ≡ greatest_number own es
  last_up_to own es up_to rest y i h le is cut before after =
      let parts = parts_of es i rest y (sym is ∙ cut) in
      let sorted : Sorted (rest ++ (y ∷ drop i es)) = subst Sorted parts h in
      let later : greatest_number own (drop i es) ≡ 0 = none_after own (drop i es) (λ k d lt. ap (is_up_to own) (get_or-drop i es k d) ∙ after (i + k) d (omega arith) (omega (arith, length-drop i es))) in
      let long : length rest + 1 ≡ i = omega (arith, ap length is, ap length cut, length-take-le i es le, length-append rest (y ∷ [])) in
      let last : is_up_to own y ≡ true = ap (is_up_to own) (sym (ap (λ (xs : List (BatchName × X)). get_or xs (length rest) y) parts ∙ get_or-append_seam rest y (drop i es) y)) ∙ before (length rest) y (omega arith) (omega arith) in
      let all : greatest_number own es ≡ max (greatest_number own rest) (max (number_at own y) (greatest_number own (drop i es))) = ap (greatest_number own) parts ∙ greatest-append own rest (y ∷ drop i es) in
      elim (cases_lt y.0.origin.0 own.0) as (λ _. number_at own y ≡ greatest_number own es) [
        | inl less ↦ let none = before_lesser own rest (drop i es) y sorted less in grind (arith, nat_tests)
        | inr ge ↦
            let same : y.0.origin.0 ≡ own.0 = grind (arith, nat_tests) in
            let none = before_own own rest (drop i es) y sorted same in grind (arith, nat_tests)
      ]
