-- Two lists without repeats that have the same members are one list in two orders.
use Rattle.std.specs.Prelude.{◌≡◌, Bool, true, false, cond, not, ◌&&◌, ◌||◌, List, [], ◌∷◌, filter, ℤ}
use Rattle.std.specs.List.{list_any}
use Rattle.std.specs.Ordering.{int_eq}
use Rattle.std.proofs.Common.{refl, sym, ap, subst, ◌∙◌}
use Rattle.std.proofs.Math.Bool.{and-false}
use Rattle.std.proofs.lemmas.Bool.{or_parts, false≢true}
use Rattle.std.proofs.lemmas.Bool.Decides.{Decides-int_eq}
use Rattle.std.specs.Cmp.{both_ways}
use Rattle.table_model.specs.Values.{distinct}
use Rattle.table_model.proofs.Parts.{AreApart}
use Rattle.table_model.proofs.Rearranged.{Rearranged, none, kept, swapped, both, unmoved}
use Rattle.table_model.proofs.ValueFacts.{members, distinct-apart}

taken_out : (c d l : Bool) → d ≡ c → (not c && l) ≡ (not c && (d || l))
taken_out true d l e = refl
taken_out false d l e = ap (λ b. b || l) (sym e)

left_in : (c d l : Bool) → (c ≡ true → d ≡ true → ⊥) → (d || (not c && l)) ≡ (not c && (d || l))
left_in true true l h = absurd (h refl refl)
left_in true false l h = refl
left_in false d l h = refl

left_over : (c l : Bool) → (c ≡ true → l ≡ false) → l ≡ (not c && (c || l))
left_over true l h = h refl
left_over false l h = refl

module _ {K : Type 0} (same : K → K → Bool) (one : (a b : K) → same a b ≡ true → a ≡ b) (itself : (a : K) → same a a ≡ true) where
  -- the members but for one
  abbrev but : K → List K → List K
  but x ys = filter (λ y. not (same x y)) ys

  but_none : (x : K) (ys : List K) → list_any (same x) ys ≡ false → but x ys ≡ ys
  but_none x [] h = refl
  but_none x (y ∷ ys) h =
      let parts = or_parts (same x y) (list_any (same x) ys) h in
      ap (λ b. cond (not b) (y ∷ but x ys) (but x ys)) parts.0 ∙ ap (λ l. y ∷ l) (but_none x ys parts.1)

  swap_same : (x y : K) → same x y ≡ same y x
  swap_same x y = both_ways (same x y) (same y x) (λ e. ap (λ z. same y z) (one x y e) ∙ itself y) (λ e. ap (λ z. same x z) (one y x e) ∙ itself x)

  -- a member may stand first
  first_if : (x y : K) (ys : List K) (b : Bool) → same x y ≡ b → list_any (same y) ys ≡ false → (list_any (same x) ys ≡ true → Rearranged (x ∷ but x ys) ys) → (b || list_any (same x) ys) ≡ true → Rearranged (x ∷ cond (not b) (y ∷ but x ys) (but x ys)) (y ∷ ys)
  first_if x y ys true is apart rest here =
      let at : x ≡ y = one x y is in
      subst (λ (l : List K). Rearranged (x ∷ but x ys) l) (λ i. at i ∷ but_none x ys (ap (λ z. list_any (same z) ys) at ∙ apart) i) (unmoved (x ∷ but x ys))
  first_if x y ys false is apart rest here = both _ _ _ (swapped x y (but x ys)) (kept y _ _ (rest here))

  first : (x : K) (ys : List K) → AreApart same ys → list_any (same x) ys ≡ true → Rearranged (x ∷ but x ys) ys
  first x [] apart here = absurd (false≢true here)
  first x (y ∷ ys) apart here = first_if x y ys (same x y) refl apart.0 (first x ys apart.1) here

  never_both : (k x y : K) → same x y ≡ false → same k x ≡ true → same k y ≡ true → ⊥
  never_both k x y apart p q = false≢true (sym apart ∙ ap (λ z. same z y) (sym (one k x p)) ∙ q)

  member_if : (k x y : K) (ys : List K) (b : Bool) → same x y ≡ b → list_any (same k) (but x ys) ≡ (not (same k x) && list_any (same k) ys) → list_any (same k) (cond (not b) (y ∷ but x ys) (but x ys)) ≡ (not (same k x) && (same k y || list_any (same k) ys))
  member_if k x y ys true is rest = rest ∙ taken_out (same k x) (same k y) (list_any (same k) ys) (sym (ap (λ z. same k z) (one x y is)))
  member_if k x y ys false is rest = ap (λ b. same k y || b) rest ∙ left_in (same k x) (same k y) (list_any (same k) ys) (never_both k x y is)

  -- what is a member still, and what was no member before
  member_but : (k x : K) (ys : List K) → list_any (same k) (but x ys) ≡ (not (same k x) && list_any (same k) ys)
  member_but k x [] = sym (and-false (not (same k x)))
  member_but k x (y ∷ ys) = member_if k x y ys (same x y) refl (member_but k x ys)

  apart_if : (x y : K) (ys : List K) (b : Bool) → list_any (same y) ys ≡ false → AreApart same (but x ys) → AreApart same (cond (not b) (y ∷ but x ys) (but x ys))
  apart_if x y ys true apart rest = rest
  apart_if x y ys false apart rest = (member_but y x ys ∙ ap (λ b. not (same y x) && b) apart ∙ and-false (not (same y x)), rest)

  apart_but : (x : K) (ys : List K) → AreApart same ys → AreApart same (but x ys)
  apart_but x [] apart = tt
  apart_but x (y ∷ ys) apart = apart_if x y ys (same x y) apart.0 (apart_but x ys apart.1)

  pub rearranged_members : (xs ys : List K) → AreApart same xs → AreApart same ys → ((k : K) → list_any (same k) xs ≡ list_any (same k) ys) → Rearranged xs ys
  rearranged_members [] [] f g alike = none
  rearranged_members [] (y ∷ ys) f g alike = absurd (false≢true (alike y ∙ ap (λ b. b || list_any (same y) ys) (itself y)))
  rearranged_members (x ∷ xs) ys f g alike =
      let here : list_any (same x) ys ≡ true = sym (alike x) ∙ ap (λ b. b || list_any (same x) xs) (itself x) in
      let rest : Rearranged xs (but x ys) =
      rearranged_members xs (but x ys) f.1 (apart_but x ys g)
      (λ k. left_over (same k x) (list_any (same k) xs) (λ e. ap (λ z. list_any (same z) xs) (one k x e) ∙ f.0) ∙ ap (λ b. not (same k x) && b) (alike k) ∙ sym (member_but k x ys)) in
      both _ _ _ (kept x _ _ rest) (first x ys g here)

-- the values that DISTINCT keeps are any list that has each value once
pub distinct-alike : (xs zs : List ℤ) → AreApart int_eq xs → ((z : ℤ) → list_any (int_eq z) xs ≡ list_any (int_eq z) zs) → Rearranged xs (distinct zs)
distinct-alike xs zs apart alike =
    rearranged_members int_eq (λ a b e. (Decides-int_eq a b).0 e) (λ a. (Decides-int_eq a a).1 refl) xs (distinct zs) apart (distinct-apart zs) (λ z. alike z ∙ sym (members zs z))
