-- The least of the names for which two partial answers can't be combined.
use Rattle.std.proofs.Common.{◌≡◌, Bool, true, false, cond, not, ◌&&◌, ◌||◌, List, [], ◌∷◌, Option, Some, None, refl, sym, ap, ◌∙◌}
use Rattle.std.specs.FinSet as set
use Rattle.std.specs.List.{list_all, list_any}
use Rattle.std.specs.Ordering.{eq_by_cmp, is_lt, ordering_reverse}
use Rattle.std.specs.declared.cmp.Ordering.{Ordering}
use Rattle.std.specs.declared.cmp.Ordering.TheVariants.{Less, Equal, Greater}
use Rattle.std.proofs.lemmas.Bool.{false≢true, or_right, and_parts, and_from}
use Rattle.table_model.specs.Name.{name_cmp}
use Rattle.table_model.specs.declared.names.BatchName.{BatchName}
use Rattle.table_model.proofs.NameOrder.{names_total, exact_names}
use Rattle.partial_answers.specs.Between.{lesser_name, is_between, IsFirstShared, IsFirstBetween}
use Rattle.partial_answers.specs.Counted.{Counted, Names, have_none_in_common, may_be_combined}
use Rattle.partial_answers.proofs.SharedNames.{itself, one_of}

-- the least name that passes a test, if one does
abbrev IsFirst : (BatchName → Bool) → Option BatchName → Type 0
IsFirst P None = (q : BatchName) → P q ≡ true → ⊥
IsFirst P (Some name) = (P name ≡ true) × ((q : BatchName) → P q ≡ true → name_cmp q name ≡ Less → ⊥)

or_left : (a b : Bool) → a ≡ true → (a || b) ≡ true
or_left a b e = ap (λ c. c || b) e

-- a name that isn't below another is above it or the same
not_below : (x y : BatchName) (o p : Ordering) → name_cmp y x ≡ o → name_cmp x y ≡ p → p ≡ ordering_reverse o → is_lt o ≡ false → (C : Type 0) → (name_cmp x y ≡ Less → C) → (x ≡ y → C) → C
not_below x y Less p a b c d C f g = absurd (false≢true (sym d))
not_below x y Equal p a b c d C f g = g (sym (exact_names y x a))
not_below x y Greater p a b c d C f g = f (b ∙ c)

module _ (P Q : BatchName → Bool) where
  both_least : (x y : BatchName) → IsFirst P (Some x) → IsFirst Q (Some y) → IsFirst (λ n. P n || Q n) (cond (is_lt (name_cmp y x)) (Some y) (Some x))
  both_least x y f g =
      elim (is_lt (name_cmp y x)) as (λ b. is_lt (name_cmp y x) ≡ b → IsFirst (λ n. P n || Q n) (cond b (Some y) (Some x))) [
        | true ↦ λ less. (
          or_right (P y) (Q y) g.0,
          λ q h below. one_of (P q) (Q q) h ⊥ (λ is. f.1 q is (names_total.trans q y x below (lt_is (name_cmp y x) less))) (λ is. g.1 q is below),
        )
        | false ↦ λ more. (
          or_left (P x) (Q x) f.0,
          λ q h below. one_of (P q) (Q q) h ⊥ (λ is. f.1 q is below)
              (λ is. not_below x y (name_cmp y x) (name_cmp x y) refl refl (names_total.antisymm x y) more ⊥
              (λ above. g.1 q is (names_total.trans q x y below above))
              (λ same. g.1 q is (ap (name_cmp q) (sym same) ∙ below))),
        )
      ] refl
    where
      lt_is : (o : Ordering) → is_lt o ≡ true → o ≡ Less
      lt_is Less e = refl
      lt_is Equal e = absurd (false≢true e)
      lt_is Greater e = absurd (false≢true e)

  first_or : (a b : Option BatchName) → IsFirst P a → IsFirst Q b → IsFirst (λ n. P n || Q n) (lesser_name a b)
  first_or None None f g = λ q h. one_of (P q) (Q q) h ⊥ (f q) (g q)
  first_or None (Some y) f g = (or_right (P y) (Q y) g.0, λ q h below. one_of (P q) (Q q) h ⊥ (f q) (λ is. g.1 q is below))
  first_or (Some x) None f g = (or_left (P x) (Q x) f.0, λ q h below. one_of (P q) (Q q) h ⊥ (λ is. f.1 q is below) (g q))
  first_or (Some x) (Some y) f g = both_least x y f g

shared : (s t : Names) (o : Option BatchName) → IsFirstShared s t o → IsFirst (λ n. set.contains s n && set.contains t n) o
shared s t None h = λ q both. let components = and_parts (set.contains s q) (set.contains t q) both in h q components.0 components.1
shared s t (Some name) h = (
  and_from (set.contains s name) (set.contains t name) h.first h.second,
  λ q both below. let components = and_parts (set.contains s q) (set.contains t q) both in h.least q components.0 components.1 below,
)

told : (p q : Counted) (o : Option BatchName) → IsFirst (is_between p q) o → IsFirstBetween p q o
told p q None h = h
told p q (Some name) h = record { between = h.0; least = h.1 }

pub first_between : (p q : Counted) (a b c : Option BatchName) → IsFirstShared p.held q.held a → IsFirstShared p.strays q.held b → IsFirstShared q.strays p.held c → IsFirstBetween p q (lesser_name a (lesser_name b c))
first_between p q a b c f g h =
    let held = λ (n : BatchName). set.contains p.held n && set.contains q.held n in
    let one = λ (n : BatchName). set.contains p.strays n && set.contains q.held n in
    let other = λ (n : BatchName). set.contains q.strays n && set.contains p.held n in
    told p q _ (first_or held (λ n. one n || other n) a (lesser_name b c) (shared p.held q.held a f) (first_or one other b c (shared p.strays q.held b g) (shared q.strays p.held c h)))

-- ---- partial answers between which there is no name may be combined
not_from : (b : Bool) → (b ≡ true → ⊥) → not b ≡ true
not_from true h = absurd (h refl)
not_from false h = refl

all_not : (t : Names) (xs : List BatchName) → ((q : BatchName) → list_any (eq_by_cmp name_cmp q) xs ≡ true → set.contains t q ≡ true → ⊥) → list_all (λ name. not (set.contains t name)) xs ≡ true
all_not t [] h = refl
all_not t (x ∷ xs) h =
    and_from (not (set.contains t x)) (list_all (λ name. not (set.contains t name)) xs)
    (not_from (set.contains t x) (h x (or_left (eq_by_cmp name_cmp x x) _ (itself x))))
    (all_not t xs (λ q has. h q (or_right (eq_by_cmp name_cmp q x) _ has)))

none_shared : (s t : Names) → ((q : BatchName) → set.contains s q ≡ true → set.contains t q ≡ true → ⊥) → have_none_in_common s t ≡ true
unfolding have_none_in_common
none_shared s t h = all_not t (set.items s) (λ q has. h q (set.contains-items s q ∙ has))

pub none_combined : (p q : Counted) → IsFirstBetween p q None → may_be_combined p q ≡ true
none_combined p q h =
    let held = λ (n : BatchName). set.contains p.held n && set.contains q.held n in
    let one = λ (n : BatchName). set.contains p.strays n && set.contains q.held n in
    let other = λ (n : BatchName). set.contains q.strays n && set.contains p.held n in
    and_from (have_none_in_common p.held q.held) _
    (none_shared p.held q.held (λ n a b. h n (or_left (held n) _ (and_from (set.contains p.held n) (set.contains q.held n) a b))))
    (and_from (have_none_in_common p.strays q.held) (have_none_in_common q.strays p.held)
    (none_shared p.strays q.held (λ n a b. h n (or_right (held n) _ (or_left (one n) _ (and_from (set.contains p.strays n) (set.contains q.held n) a b)))))
    (none_shared q.strays p.held (λ n a b. h n (or_right (held n) _ (or_right (one n) (other n) (and_from (set.contains q.strays n) (set.contains p.held n) a b))))))
