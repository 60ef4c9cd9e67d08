-- The first name of a list in order that a set has is the least that both have.
use Rattle.std.proofs.Common.{◌≡◌, ℕ, zero, suc, ◌+◌, ◌≤◌, length, drop, Bool, true, false, cond, ◌||◌, List, [], ◌∷◌, ◌++◌, Option, Some, None, refl, sym, ap, subst, ◌∙◌, arith}
use Rattle.std.specs.FinSet as set
use Rattle.std.specs.List.{filter, list_any, AllByRecursion}
use Rattle.std.specs.List.Sorted.{IsStrictlySortedBy}
use Rattle.std.specs.Ordering.{eq_by_cmp, is_eq}
use Rattle.std.specs.Cmp.{Equal-is, tied_itself}
use Rattle.std.specs.declared.cmp.Ordering.TheVariants.{Less}
use Rattle.std.proofs.lemmas.Bool.{false≢true, or_right}
use Rattle.std.proofs.lemmas.List.Elements.{filter-append}
use Rattle.table_model.specs.Name.{name_cmp}
use Rattle.table_model.specs.declared.names.Origin.{Origin}
use Rattle.table_model.specs.declared.names.BatchName.{BatchName}
use Rattle.table_model.proofs.NameOrder.{names_total, exact_names}
use Rattle.catalogue_join.specs.Held.{IsListOf}
use Rattle.catalogue_join.specs.Run.{name_at, names_from, names_of, names_listed}
use Rattle.catalogue_join.specs.declared.run.Run.{Run}
use Rattle.partial_answers.specs.Between.{first_of, IsFirstShared}
use Rattle.partial_answers.specs.Counted.{Names}

-- ---- the first of a filtered list
first_both : (xs ys : List BatchName) (o : Option BatchName) → first_of xs ≡ None → first_of (xs ++ ys) ≡ first_of ys
first_both [] ys o e = refl
first_both (x ∷ xs) ys o e = absurd cc

first_before : (xs ys : List BatchName) (name : BatchName) → first_of xs ≡ Some name → first_of (xs ++ ys) ≡ Some name
first_before [] ys name e = absurd cc
first_before (x ∷ xs) ys name e = e

pub first_on : (p : BatchName → Bool) (r : Run) (rs : List Run) → first_of (filter p (names_of r)) ≡ None → first_of (filter p (names_listed (r ∷ rs))) ≡ first_of (filter p (names_listed rs))
first_on p r rs e = ap first_of (filter-append p (names_of r) (names_listed rs)) ∙ first_both (filter p (names_of r)) (filter p (names_listed rs)) None e

pub first_here : (p : BatchName → Bool) (r : Run) (rs : List Run) (name : BatchName) → first_of (filter p (names_of r)) ≡ Some name → first_of (filter p (names_listed (r ∷ rs))) ≡ Some name
first_here p r rs name e = ap first_of (filter-append p (names_of r) (names_listed rs)) ∙ first_before (filter p (names_of r)) (filter p (names_listed rs)) name e

-- a number more of a run
pub number_on : (p : BatchName → Bool) (origin : Origin) (n count left : ℕ) → count ≡ left + 1 → p (name_at origin n) ≡ false → first_of (filter p (names_from origin n count)) ≡ first_of (filter p (names_from origin (n + 1) left))
number_on p origin n zero left e none = absurd (omega (arith, e))
number_on p origin n (suc count) left e none =
    let same : count ≡ left = omega (arith, e) in
    ap (λ b. first_of (cond b (name_at origin n ∷ filter p (names_from origin (n + 1) count)) (filter p (names_from origin (n + 1) count)))) none ∙ ap (λ k. first_of (filter p (names_from origin (n + 1) k))) same

pub number_here : (p : BatchName → Bool) (origin : Origin) (n count left : ℕ) → count ≡ left + 1 → p (name_at origin n) ≡ true → first_of (filter p (names_from origin n count)) ≡ Some (name_at origin n)
number_here p origin n zero left e has = absurd (omega (arith, e))
number_here p origin n (suc count) left e has = ap (λ b. first_of (cond b (name_at origin n ∷ filter p (names_from origin (n + 1) count)) (filter p (names_from origin (n + 1) count)))) has

-- ---- the least
pub same_name : (q x : BatchName) → eq_by_cmp name_cmp q x ≡ true → q ≡ x
same_name q x e = exact_names q x ((Equal-is (name_cmp q x)).0 e)

pub itself : (q : BatchName) → eq_by_cmp name_cmp q q ≡ true
itself q = ap is_eq (tied_itself names_total q)

not_itself : (q : BatchName) → name_cmp q q ≡ Less → ⊥
not_itself q e = false≢true (sym (ap is_eq e) ∙ itself q)

not_both : (q x : BatchName) → name_cmp q x ≡ Less → name_cmp x q ≡ Less → ⊥
not_both q x a b = not_itself q (names_total.trans q x q a b)

below_none : (x q : BatchName) (xs : List BatchName) → AllByRecursion (λ y. name_cmp x y ≡ Less) xs → list_any (eq_by_cmp name_cmp q) xs ≡ true → name_cmp x q ≡ Less
below_none x q [] h k = absurd (false≢true k)
below_none x q (y ∷ ys) h k =
    elim (eq_by_cmp name_cmp q y) as (λ b. eq_by_cmp name_cmp q y ≡ b → (b || list_any (eq_by_cmp name_cmp q) ys) ≡ true → name_cmp x q ≡ Less) [
      | true ↦ λ tied _. ap (name_cmp x) (same_name q y tied) ∙ h.0
      | false ↦ λ _ rest. below_none x q ys h.1 rest
    ] refl k

abbrev Found : (BatchName → Bool) → List BatchName → Option BatchName → Type 0
Found p names None = (q : BatchName) → list_any (eq_by_cmp name_cmp q) names ≡ true → p q ≡ true → ⊥
Found p names (Some name) = (list_any (eq_by_cmp name_cmp name) names ≡ true) × (p name ≡ true) × ((q : BatchName) → list_any (eq_by_cmp name_cmp q) names ≡ true → p q ≡ true → name_cmp q name ≡ Less → ⊥)

pub one_of : (a b : Bool) → (a || b) ≡ true → (C : Type 0) → (a ≡ true → C) → (b ≡ true → C) → C
one_of true b e C f g = f refl
one_of false b e C f g = g e

passed_on : (p : BatchName → Bool) (x : BatchName) (xs : List BatchName) (o : Option BatchName) → p x ≡ false → Found p xs o → Found p (x ∷ xs) o
passed_on p x xs None left h = λ q has is.
    one_of (eq_by_cmp name_cmp q x) (list_any (eq_by_cmp name_cmp q) xs) has ⊥ (λ tied. false≢true (sym left ∙ sym (ap p (same_name q x tied)) ∙ is)) (λ rest. h q rest is)
passed_on p x xs (Some name) left h = (
  or_right (eq_by_cmp name_cmp name x) _ h.0,
  h.1,
  λ q has is less.
      one_of (eq_by_cmp name_cmp q x) (list_any (eq_by_cmp name_cmp q) xs) has ⊥ (λ tied. false≢true (sym left ∙ sym (ap p (same_name q x tied)) ∙ is)) (λ rest. h.2 q rest is less),
)

found : (p : BatchName → Bool) (names : List BatchName) → IsStrictlySortedBy name_cmp names → Found p names (first_of (filter p names))
unfolding IsStrictlySortedBy
found p [] up = λ q has is. false≢true has
found p (x ∷ xs) up =
    elim (p x) as (λ b. p x ≡ b → Found p (x ∷ xs) (first_of (cond b (x ∷ filter p xs) (filter p xs)))) [
      | true ↦ λ is. (
        ap (λ b. b || list_any (eq_by_cmp name_cmp x) xs) (itself x),
        is,
        λ q has _ less. one_of (eq_by_cmp name_cmp q x) (list_any (eq_by_cmp name_cmp q) xs) has ⊥
            (λ tied. not_itself x (subst (λ (n : BatchName). name_cmp n x ≡ Less) (same_name q x tied) less))
            (λ rest. not_both q x less (below_none x q xs up.0 rest)),
      )
      | false ↦ λ is. passed_on p x xs (first_of (filter p xs)) is (found p xs up.1)
    ] refl

shown : (s t : Names) (names : List BatchName) (o : Option BatchName) → set.from_list names ≡ s → Found (set.contains t) names o → IsFirstShared s t o
shown s t names None is h = λ q has also. h q (sym (set.contains-from_list names_total names q) ∙ ap (λ (n : Names). set.contains n q) is ∙ has) also
shown s t names (Some name) is h = record {
  first = sym (ap (λ (n : Names). set.contains n name) is) ∙ set.contains-from_list names_total names name ∙ h.0;
  second = h.1;
  least = λ q has also less. h.2 q (sym (set.contains-from_list names_total names q) ∙ ap (λ (n : Names). set.contains n q) is ∙ has) also less;
}

pub first_is : (s t : Names) (names : List BatchName) (o : Option BatchName) → IsListOf names s → o ≡ first_of (filter (set.contains t) names) → IsFirstShared s t o
first_is s t names o listed is = subst (λ (x : Option BatchName). IsFirstShared s t x) (sym is) (shown s t names _ listed.same (found (set.contains t) names listed.ascending))

pub nothing_behind : {X : Type 0} (xs : List X) (i : ℕ) → length xs ≤ i → drop i xs ≡ []
nothing_behind [] zero h = refl
nothing_behind [] (suc i) h = refl
nothing_behind (x ∷ xs) zero h = absurd (omega arith)
nothing_behind (x ∷ xs) (suc i) h = nothing_behind xs i (omega arith)
