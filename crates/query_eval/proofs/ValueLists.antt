-- Members of a list of values: one value more.
use Rattle.std.proofs.Common.{◌≡◌, ℕ, ◌+◌, ◌<◌, Bool, true, false, cond, ◌||◌, List, [], ◌∷◌, ◌++◌, length, get_or, take, ℤ, refl, sym, ap, subst, ◌∙◌}
use Rattle.std.specs.List.{list_any, IsDistinct}
use Rattle.std.specs.Ordering.{int_eq}
use Rattle.std.proofs.Math.Bool.{or-false}
use Rattle.std.proofs.lemmas.Bool.Decides.{Decides-int_eq}
use Rattle.std.proofs.lemmas.Cmp.{int_eq_equiv}
use Rattle.std.proofs.lemmas.List.{take_more}
use Rattle.std.proofs.lemmas.List.Folds.{list_any-append}
use Rattle.std.proofs.lemmas.Map.Keys.{IsDistinct-push}

one_of : (a b : Bool) → cond a true b ≡ (b || a)
one_of true true = refl
one_of true false = refl
one_of false true = refl
one_of false false = refl

-- a value that is there already
pub member_there : (xs : List ℤ) (x z : ℤ) → list_any (int_eq x) xs ≡ true → list_any (int_eq z) xs ≡ cond (int_eq x z) true (list_any (int_eq z) xs)
member_there xs x z there = by_test (int_eq x z) refl
  where
    by_test : (b : Bool) → int_eq x z ≡ b → list_any (int_eq z) xs ≡ cond b true (list_any (int_eq z) xs)
    by_test true e = ap (λ (y : ℤ). list_any (int_eq y) xs) (sym ((Decides-int_eq x z).0 e)) ∙ there
    by_test false e = refl

-- a value more at the end
pub member_pushed : (xs : List ℤ) (x z : ℤ) → list_any (int_eq z) (xs ++ x ∷ []) ≡ cond (int_eq x z) true (list_any (int_eq z) xs)
member_pushed xs x z =
    list_any-append (int_eq z) xs (x ∷ []) ∙ ap (λ b. list_any (int_eq z) xs || b) (or-false (int_eq z x) ∙ int_eq_equiv.symm z x) ∙ sym (one_of (int_eq x z) (list_any (int_eq z) xs))

-- of the first values one more
pub members_more : (xs : List ℤ) (i : ℕ) (x z : ℤ) (old new : Bool) → i < length xs → x ≡ get_or xs i x → old ≡ list_any (int_eq z) (take i xs) → new ≡ cond (int_eq x z) true old → new ≡ list_any (int_eq z) (take (i + 1) xs)
members_more xs i x z old new l at before is =
    is ∙ ap (λ b. cond (int_eq x z) true b) before ∙ sym (member_pushed (take i xs) x z)
    ∙ ap (list_any (int_eq z)) (sym (take_more xs i x l ∙ ap (λ (y : ℤ). take i xs ++ y ∷ []) (sym at)))

-- a value that isn't there
pub apart_pushed : (xs : List ℤ) (x : ℤ) → IsDistinct int_eq xs → list_any (int_eq x) xs ≡ false → IsDistinct int_eq (xs ++ x ∷ [])
apart_pushed xs x d none = IsDistinct-push int_eq_equiv xs x d none

none_apart : IsDistinct int_eq []
unfolding IsDistinct
none_apart = tt

pub apart_none : (xs : List ℤ) → xs ≡ [] → IsDistinct int_eq xs
apart_none xs e = subst (IsDistinct int_eq) (sym e) none_apart

-- whichever side the value stands on
pub member_turned : (xs : List ℤ) (x : ℤ) → list_any (int_eq x) xs ≡ list_any (λ y. int_eq y x) xs
member_turned xs x = λ i. list_any (λ y. int_eq_equiv.symm x y i) xs
