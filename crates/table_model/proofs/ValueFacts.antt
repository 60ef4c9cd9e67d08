-- What DISTINCT keeps, and what the least and the greatest of some values are.
use Rattle.std.specs.Prelude.{◌≡◌, ◌≢◌, Bool, true, false, cond, ◌||◌, List, [], ◌∷◌, All, AllPairs, Contains, Option, Some, None, ℤ, ◌≤ℤ◌, int_lt}
use Rattle.std.specs.Int.{int_min, int_max}
use Rattle.std.specs.List.{list_any}
use Rattle.std.specs.Ordering.{int_eq}
use Rattle.std.proofs.Common.{refl, sym, ap, subst, ◌∙◌, arith}
use Rattle.std.proofs.lemmas.Bool.{or_parts, false≢true}
use Rattle.std.proofs.lemmas.Bool.Decides.{Decides-int_eq}
use Rattle.std.proofs.lemmas.Int.{ints}
use Rattle.std.proofs.lemmas.List.Elements.{All-nil, All-cons, All-weaker, Contains-append_left, Contains-append_right}
use Rattle.std.proofs.lemmas.List.Kept.{AllPairs-cons}
use Rattle.table_model.specs.Values.{ValueLaws, distinct, lesser, greater, least, greatest}
use Rattle.table_model.proofs.Parts.{AreApart}

absorbed : (a c : Bool) → (a ≡ true → c ≡ true) → (a || c) ≡ c
absorbed true c h = sym (h refl)
absorbed false c h = refl

member_of : (z x : ℤ) (xs : List ℤ) (b : Bool) → list_any (int_eq x) xs ≡ b → list_any (int_eq z) (distinct xs) ≡ list_any (int_eq z) xs → list_any (int_eq z) (cond b (distinct xs) (x ∷ distinct xs)) ≡ (int_eq z x || list_any (int_eq z) xs)
member_of z x xs false again rest = ap (λ c. int_eq z x || c) rest
member_of z x xs true again rest =
    rest ∙ sym (absorbed (int_eq z x) (list_any (int_eq z) xs) (λ same. subst (λ (y : ℤ). list_any (int_eq y) xs ≡ true) (sym ((Decides-int_eq z x).0 same)) again))

-- DISTINCT keeps each value that is there
pub members : (zs : List ℤ) (z : ℤ) → list_any (int_eq z) (distinct zs) ≡ list_any (int_eq z) zs
members [] z = refl
members (x ∷ xs) z = member_of z x xs (list_any (int_eq x) xs) refl (members xs z)

apart_after : (x : ℤ) (xs : List ℤ) (b : Bool) → list_any (int_eq x) xs ≡ b → AreApart int_eq (distinct xs) → AreApart int_eq (cond b (distinct xs) (x ∷ distinct xs))
apart_after x xs true again rest = rest
apart_after x xs false again rest = (members xs x ∙ again, rest)

-- DISTINCT keeps no value twice
pub distinct-apart : (zs : List ℤ) → AreApart int_eq (distinct zs)
distinct-apart [] = tt
distinct-apart (x ∷ xs) = apart_after x xs (list_any (int_eq x) xs) refl (distinct-apart xs)

differs : (x : ℤ) (ys : List ℤ) → list_any (int_eq x) ys ≡ false → All (λ y. x ≢ y) ys
differs x [] h = All-nil (λ y. x ≢ y)
differs x (y ∷ ys) h =
    let parts = or_parts (int_eq x y) (list_any (int_eq x) ys) h in
    All-cons (λ y. x ≢ y) y ys (λ same. false≢true (sym parts.0 ∙ (Decides-int_eq x y).1 same)) (differs x ys parts.1)

apart_pairs : (zs : List ℤ) → AreApart int_eq zs → AllPairs (λ x y. x ≢ y) zs
apart_pairs [] h = λ i j d p q. absurd (omega arith)
apart_pairs (z ∷ zs) h = AllPairs-cons (λ x y. x ≢ y) z zs (differs z zs h.0) (apart_pairs zs h.1)

some_lesser : (x : ℤ) (o : Option ℤ) → lesser (Some x) o ≡ None → ⊥
some_lesser x None e = cc
some_lesser x (Some y) e = cc

no_least : (zs : List ℤ) → least zs ≡ None → zs ≡ []
no_least [] e = refl
no_least (z ∷ zs) e = absurd (some_lesser z (least zs) e)

first_of : (z : ℤ) (zs : List ℤ) → Contains (z ∷ zs) z
first_of z zs = Contains-append_left (z ∷ []) zs z (0, omega arith, refl)

-- the value is among these, and none is below it
abbrev IsLeast : List ℤ → ℤ → Type 0
IsLeast zs m = Contains zs m × All (λ y. m ≤ℤ y) zs

lesser_is : (z k : ℤ) (zs : List ℤ) (b : Bool) → int_lt k z ≡ b → IsLeast zs k → IsLeast (z ∷ zs) (cond b k z)
lesser_is z k zs true below rest = (Contains-append_right (z ∷ []) zs k rest.0, All-cons (λ y. k ≤ℤ y) z zs (grind (arith, ints)) rest.1)
lesser_is z k zs false below rest =
    let low : z ≤ℤ k = grind (arith, ints) in
    (first_of z zs, All-cons (λ y. z ≤ℤ y) z zs (omega (arith, ints)) (All-weaker (λ y. k ≤ℤ y) (λ y. z ≤ℤ y) (λ y h. omega (arith, ints)) zs rest.1))

-- the lesser of the first value and the least of the others
least_more : (z : ℤ) (zs : List ℤ) (o : Option ℤ) (m : ℤ) → least zs ≡ o → ((k : ℤ) → o ≡ Some k → IsLeast zs k) → lesser (Some z) o ≡ Some m → IsLeast (z ∷ zs) m
least_more z zs None m is rest e =
    let same : z ≡ m = cc in
    subst (IsLeast (z ∷ zs)) same (first_of z zs, All-cons (λ y. z ≤ℤ y) z zs (omega (arith, ints)) (subst (All (λ y. z ≤ℤ y)) (sym (no_least zs is)) (All-nil (λ y. z ≤ℤ y))))
least_more z zs (Some k) m is rest e =
    let same : int_min z k ≡ m = cc in
    subst (IsLeast (z ∷ zs)) same (lesser_is z k zs (int_lt k z) refl (rest k refl))

is_least : (zs : List ℤ) (m : ℤ) → least zs ≡ Some m → IsLeast zs m
is_least [] m e = absurd (cc)
is_least (z ∷ zs) m e = least_more z zs (least zs) m refl (λ k. is_least zs k) e

some_greater : (x : ℤ) (o : Option ℤ) → greater (Some x) o ≡ None → ⊥
some_greater x None e = cc
some_greater x (Some y) e = cc

no_greatest : (zs : List ℤ) → greatest zs ≡ None → zs ≡ []
no_greatest [] e = refl
no_greatest (z ∷ zs) e = absurd (some_greater z (greatest zs) e)

-- the value is among these, and none is above it
abbrev IsGreatest : List ℤ → ℤ → Type 0
IsGreatest zs m = Contains zs m × All (λ y. y ≤ℤ m) zs

greater_is : (z k : ℤ) (zs : List ℤ) (b : Bool) → int_lt k z ≡ b → IsGreatest zs k → IsGreatest (z ∷ zs) (cond b z k)
greater_is z k zs false above rest = (Contains-append_right (z ∷ []) zs k rest.0, All-cons (λ y. y ≤ℤ k) z zs (grind (arith, ints)) rest.1)
greater_is z k zs true above rest =
    let high : k ≤ℤ z = grind (arith, ints) in
    (first_of z zs, All-cons (λ y. y ≤ℤ z) z zs (omega (arith, ints)) (All-weaker (λ y. y ≤ℤ k) (λ y. y ≤ℤ z) (λ y h. omega (arith, ints)) zs rest.1))

greatest_more : (z : ℤ) (zs : List ℤ) (o : Option ℤ) (m : ℤ) → greatest zs ≡ o → ((k : ℤ) → o ≡ Some k → IsGreatest zs k) → greater (Some z) o ≡ Some m → IsGreatest (z ∷ zs) m
greatest_more z zs None m is rest e =
    let same : z ≡ m = cc in
    subst (IsGreatest (z ∷ zs)) same (first_of z zs, All-cons (λ y. y ≤ℤ z) z zs (omega (arith, ints)) (subst (All (λ y. y ≤ℤ z)) (sym (no_greatest zs is)) (All-nil (λ y. y ≤ℤ z))))
greatest_more z zs (Some k) m is rest e =
    let same : int_max z k ≡ m = cc in
    subst (IsGreatest (z ∷ zs)) same (greater_is z k zs (int_lt k z) refl (rest k refl))

is_greatest : (zs : List ℤ) (m : ℤ) → greatest zs ≡ Some m → IsGreatest zs m
is_greatest [] m e = absurd (cc)
is_greatest (z ∷ zs) m e = greatest_more z zs (greatest zs) m refl (λ k. is_greatest zs k) e

pub values : ValueLaws
values = record {
  members = members;
  once = λ zs. apart_pairs (distinct zs) (distinct-apart zs);
  is_least = is_least;
  is_greatest = is_greatest;
  no_least = no_least;
  no_greatest = no_greatest;
}
