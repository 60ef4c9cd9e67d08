-- What goes with some names and what goes with others is, joined, what goes with either.
use Rattle.std.specs.Prelude.{◌≡◌, ◌⊎◌, ◌≤◌, ◌<◌, ℕ, zero, suc, Bool, true, false, cond, ◌==◌, nat_le, ◌&&◌, ◌||◌, List, [], ◌∷◌, length, filter, Option, Some, None}
use Rattle.std.proofs.Common.{refl, sym, ap, ◌∙◌, inl, inr, arith}
use Rattle.std.proofs.lemmas.Bool.{false≢true, or_right, le-leb, leb-true, eq-eqb, eqb-true, cases_lt}
use Rattle.std.specs.Cmp.{both_ways}
use Rattle.std.specs.List.{list_any}
use Rattle.std.specs.Ordering.{is_lt, eq_by_cmp}
use Rattle.std.specs.FinMap as map
use Rattle.std.specs.FinSet as set
use Rattle.table_model.specs.Name.{name_cmp, row_name_cmp}
use Rattle.table_model.specs.State.{State, join}
use Rattle.table_model.specs.declared.names.BatchName.{BatchName}
use Rattle.table_model.specs.declared.names.RowName.{RowName}
use Rattle.table_model.proofs.NameOrder.{row_names_total, exact_names, exact_row_names}
use Rattle.table_model.proofs.Operations.{same_row_name}
use Rattle.table_model.proofs.Joins.{or_else, or_else-idempotent, get-union, same_states, same_maps}
use Rattle.partial_answers.specs.PartialAnswerLaws.{joined}
use Rattle.replica_store.specs.Replica.{names_of}
use Rattle.table_spread.specs.Spread.{run_of, share_at, deletions_of, of_names, share_of}
use Rattle.table_spread.specs.SpreadLaws.{shares_up_to}

-- a row of the list that passes the test
any-filter : (p : RowName → Bool) (q : RowName) (rows : List RowName) → list_any (eq_by_cmp row_name_cmp q) (filter p rows) ≡ (p q && list_any (eq_by_cmp row_name_cmp q) rows)
any-filter p q [] = elim (p q) as (λ b. false ≡ (b && false)) [ true ↦ refl | false ↦ refl ]
any-filter p q (row ∷ rows) =
    elim (eq_by_cmp row_name_cmp q row) as (λ b. eq_by_cmp row_name_cmp q row ≡ b → list_any (eq_by_cmp row_name_cmp q) (cond (p row) (row ∷ filter p rows) (filter p rows)) ≡ (p q && (b || list_any (eq_by_cmp row_name_cmp q) rows))) [
      | true ↦ λ tied. here (p row) (p q) tied (ap p (same_row_name q row tied)) (any-filter p q rows)
      | false ↦ λ tied. there (p row) tied ∙ any-filter p q rows
    ] refl
  where
    rest : Bool
    rest = list_any (eq_by_cmp row_name_cmp q) (filter p rows)

    here : (b c : Bool) → eq_by_cmp row_name_cmp q row ≡ true → c ≡ b → rest ≡ (c && list_any (eq_by_cmp row_name_cmp q) rows) → list_any (eq_by_cmp row_name_cmp q) (cond b (row ∷ filter p rows) (filter p rows)) ≡ (c && true)
    here true true tied e h = ap (λ d. d || rest) tied
    here true false tied e h = absurd (false≢true e)
    here false true tied e h = absurd (false≢true (sym e))
    here false false tied e h = h

    there : (b : Bool) → eq_by_cmp row_name_cmp q row ≡ false → list_any (eq_by_cmp row_name_cmp q) (cond b (row ∷ filter p rows) (filter p rows)) ≡ rest
    there true tied = ap (λ d. d || rest) tied
    there false tied = refl

pub get-of_names : (goes : BatchName → Bool) (s : State) (q : BatchName) → map.get (of_names goes s).batches q ≡ cond (goes q) (map.get s.batches q) None
unfolding of_names
get-of_names goes s q = map.get-retain_keys s.batches goes q (λ x tied. ap goes (sym (exact_names q x tied)))

pub contains-deletions_of : (goes : BatchName → Bool) (deleted : set.FinSet row_name_cmp) (r : RowName) → set.contains (deletions_of goes deleted) r ≡ (goes r.batch && set.contains deleted r)
unfolding deletions_of
contains-deletions_of goes deleted r =
    set.contains-from_list row_names_total (filter (λ (row : RowName). goes row.batch) (set.items deleted)) r
    ∙ any-filter (λ (row : RowName). goes row.batch) r (set.items deleted)
    ∙ ap (λ b. goes r.batch && b) (sym (set.contains-items deleted r))

pub contains-of_names : (goes : BatchName → Bool) (s : State) (r : RowName) → set.contains (of_names goes s).deleted r ≡ (goes r.batch && set.contains s.deleted r)
unfolding of_names
contains-of_names goes s r = contains-deletions_of goes s.deleted r

either_if : {X : Type 0} (a b : Bool) (o : Option X) → or_else (cond a o None) (cond b o None) ≡ cond (a || b) o None
either_if true true o = or_else-idempotent o
either_if true false None = refl
either_if true false (Some x) = refl
either_if false b o = refl

either_and : (a b c : Bool) → ((a && c) || (b && c)) ≡ ((a || b) && c)
either_and true true true = refl
either_and true true false = refl
either_and true false true = refl
either_and true false false = refl
either_and false b c = refl

pub join-of_names : (p q : BatchName → Bool) (s : State) → join (of_names p s) (of_names q s) ≡ of_names (λ name. p name || q name) s
join-of_names p q s = same_states _ _
    (same_maps _ _ (λ n.
    get-union (of_names p s).batches (of_names q s).batches n
    ∙ (λ i. or_else (get-of_names p s n i) (get-of_names q s n i))
    ∙ either_if (p n) (q n) (map.get s.batches n)
    ∙ sym (get-of_names (λ name. p name || q name) s n)))
    (set.same_set row_names_total exact_row_names _ _ (λ r.
    set.contains-union row_names_total (of_names p s).deleted (of_names q s).deleted r
    ∙ (λ i. contains-of_names p s r i || contains-of_names q s r i)
    ∙ either_and (p r.batch) (q r.batch) (set.contains s.deleted r)
    ∙ sym (contains-of_names (λ name. p name || q name) s r)))

-- what goes with all names is the state
pub of_all : (goes : BatchName → Bool) (s : State) → ((name : BatchName) → goes name ≡ true) → of_names goes s ≡ s
of_all goes s all = same_states _ _
    (same_maps _ _ (λ n. get-of_names goes s n ∙ ap (λ b. cond b (map.get s.batches n) None) (all n)))
    (set.same_set row_names_total exact_row_names _ _ (λ r. contains-of_names goes s r ∙ ap (λ b. b && set.contains s.deleted r) (all r.batch)))

-- ---- the share that a name goes to
run_of-le : (firsts : List BatchName) (name : BatchName) → run_of firsts name ≤ length firsts
run_of-le [] name = omega arith
run_of-le (first ∷ firsts) name =
    elim (is_lt (name_cmp name first)) as (λ b. cond b 0 (suc (run_of firsts name)) ≤ suc (length firsts)) [
      | true ↦ omega arith
      | false ↦ let rest = run_of-le firsts name in omega arith
    ]

pub share_at-le : (firsts : List BatchName) (held : set.FinSet name_cmp) (name : BatchName) → share_at firsts held name ≤ length firsts
share_at-le firsts held name = elim (set.contains held name) as (λ b. cond b (run_of firsts name) 0 ≤ length firsts) [ true ↦ run_of-le firsts name | false ↦ omega arith ]

-- ---- the shares up to one
-- ---- numbers up to one
cases_of : (a b : Bool) → (a || b) ≡ true → (C : Type 0) → (a ≡ true → C) → (b ≡ true → C) → C
cases_of true b e C f g = f refl
cases_of false b e C f g = g e

pub up_to_none : (k : ℕ) → (k == 0) ≡ nat_le k 0
up_to_none k = both_ways (k == 0) (nat_le k 0)
    (λ h. let e = eqb-true k 0 h in le-leb k 0 (omega (arith, e)))
    (λ h. let e = leb-true k 0 h in eq-eqb k 0 (omega (arith, e)))

pub up_to_more : (k n : ℕ) → (nat_le k n || (k == suc n)) ≡ nat_le k (suc n)
up_to_more k n = both_ways (nat_le k n || (k == suc n)) (nat_le k (suc n))
    (λ h. cases_of (nat_le k n) (k == suc n) h (nat_le k (suc n) ≡ true)
    (λ e. let le = leb-true k n e in le-leb k (suc n) (omega (arith, le)))
    (λ e. let is = eqb-true k (suc n) e in le-leb k (suc n) (omega (arith, is))))
    (λ h. let le = leb-true k (suc n) h in
    elim (cases_le k n) as (λ _. (nat_le k n || (k == suc n)) ≡ true) [
      | inl few ↦ ap (λ b. b || (k == suc n)) (le-leb k n few)
      | inr more ↦ or_right (nat_le k n) (k == suc n) (eq-eqb k (suc n) (omega (arith, le, more)))
    ])
  where
    cases_le : (i j : ℕ) → (i ≤ j) ⊎ (j < i)
    cases_le i j = elim (cases_lt j i) as (λ _. (i ≤ j) ⊎ (j < i)) [ inl lt ↦ inr lt | inr ge ↦ inl (omega arith) ]

pub up_to_all : (k n : ℕ) → k ≤ n → nat_le k n ≡ true
up_to_all k n le = le-leb k n le

-- ---- the shares
module _ (firsts : List BatchName) (s : State) where
  -- what goes to the shares up to one
  abbrev pub goes_up_to : ℕ → BatchName → Bool
  goes_up_to n name = nat_le (share_at firsts (names_of s.batches) name) n

  pub joined_up_to : (n : ℕ) → joined (shares_up_to firsts s n) ≡ of_names (goes_up_to n) s
  joined_up_to zero = ap (λ (goes : BatchName → Bool). of_names goes s) (λ i name. up_to_none (share_at firsts (names_of s.batches) name) i)
  joined_up_to (suc n) =
      ap (λ (t : State). join t (share_of firsts (suc n) s)) (joined_up_to n)
      ∙ join-of_names (goes_up_to n) (λ name. share_at firsts (names_of s.batches) name == suc n) s
      ∙ ap (λ (goes : BatchName → Bool). of_names goes s) (λ i name. up_to_more (share_at firsts (names_of s.batches) name) n i)

  pub joined_all : (n : ℕ) → length firsts ≤ n → joined (shares_up_to firsts s n) ≡ s
  joined_all n le = joined_up_to n ∙ of_all (goes_up_to n) s (λ name. up_to_all (share_at firsts (names_of s.batches) name) n (let few = share_at-le firsts (names_of s.batches) name in omega (arith, le, few)))
