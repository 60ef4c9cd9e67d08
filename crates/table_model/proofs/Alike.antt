-- What lists with the same elements have in common: their filters and images, their sums, least and greatest values.
use Rattle.std.specs.Prelude.{◌≡◌, suc, Bool, true, false, cond, ◌||◌, List, [], ◌∷◌, map, filter, length, Option, Some, None, ℤ, pos, ◌+ℤ◌, ◌*ℤ◌, int_div}
use Rattle.std.specs.Int.{int_min, int_max}
use Rattle.std.specs.List.{list_any}
use Rattle.std.specs.Ordering.{int_eq}
use Rattle.std.proofs.Common.{refl, ap, subst, ◌∙◌, arith}
use Rattle.std.proofs.lemmas.Bool.Decides.{Decides-int_eq}
use Rattle.std.proofs.lemmas.Cmp.{int_eq_equiv}
use Rattle.std.proofs.lemmas.Int.{ints, clamps}
use Rattle.table_model.specs.Values.{present, distinct, or_null, total, total_or_null, mean, lesser, greater, least, greatest}
use Rattle.table_model.proofs.Rearranged.{Rearranged, none, kept, swapped, both, unmoved}

or_swap : (a b c : Bool) → (a || (b || c)) ≡ (b || (a || c))
or_swap true true c = refl
or_swap true false c = refl
or_swap false b c = refl

module _ {X : Type 0} where
  pub Rearranged-filter : (p : X → Bool) (xs ys : List X) → Rearranged xs ys → Rearranged (filter p xs) (filter p ys)
  Rearranged-filter p _ _ none = none
  Rearranged-filter p _ _ (kept x xs ys h) =
      elim (p x) as (λ b. Rearranged (cond b (x ∷ filter p xs) (filter p xs)) (cond b (x ∷ filter p ys) (filter p ys))) [
        | true ↦ kept x _ _ (Rearranged-filter p xs ys h)
        | false ↦ Rearranged-filter p xs ys h
      ]
  Rearranged-filter p _ _ (swapped x y zs) =
      let l = filter p zs in
      elim (p x) as (λ b. Rearranged (cond b (x ∷ filter p (y ∷ zs)) (filter p (y ∷ zs))) (cond (p y) (y ∷ cond b (x ∷ l) l) (cond b (x ∷ l) l))) [
        | true ↦ elim (p y) as (λ c. Rearranged (x ∷ cond c (y ∷ l) l) (cond c (y ∷ x ∷ l) (x ∷ l))) [ true ↦ swapped x y l | false ↦ unmoved (x ∷ l) ]
        | false ↦ unmoved (filter p (y ∷ zs))
      ]
  Rearranged-filter p _ _ (both xs ys zs f g) = both _ _ _ (Rearranged-filter p xs ys f) (Rearranged-filter p ys zs g)

  pub Rearranged-map : {Y : Type 0} (f : X → Y) (xs ys : List X) → Rearranged xs ys → Rearranged (map f xs) (map f ys)
  Rearranged-map f _ _ none = none
  Rearranged-map f _ _ (kept x xs ys h) = kept (f x) _ _ (Rearranged-map f xs ys h)
  Rearranged-map f _ _ (swapped x y zs) = swapped (f x) (f y) (map f zs)
  Rearranged-map f _ _ (both xs ys zs g h) = both _ _ _ (Rearranged-map f xs ys g) (Rearranged-map f ys zs h)

  pub Rearranged-present : (xs ys : List (Option X)) → Rearranged xs ys → Rearranged (present xs) (present ys)
  Rearranged-present _ _ none = none
  Rearranged-present _ _ (kept None xs ys h) = Rearranged-present xs ys h
  Rearranged-present _ _ (kept (Some x) xs ys h) = kept x _ _ (Rearranged-present xs ys h)
  Rearranged-present _ _ (swapped None y zs) = unmoved (present (y ∷ zs))
  Rearranged-present _ _ (swapped (Some x) None zs) = unmoved (x ∷ present zs)
  Rearranged-present _ _ (swapped (Some x) (Some y) zs) = swapped x y (present zs)
  Rearranged-present _ _ (both xs ys zs g h) = both _ _ _ (Rearranged-present xs ys g) (Rearranged-present ys zs h)

  pub length-alike : (xs ys : List X) → Rearranged xs ys → length xs ≡ length ys
  length-alike _ _ none = refl
  length-alike _ _ (kept x xs ys h) = ap suc (length-alike xs ys h)
  length-alike _ _ (swapped x y zs) = refl
  length-alike _ _ (both xs ys zs g h) = length-alike xs ys g ∙ length-alike ys zs h

  pub list_any-alike : (p : X → Bool) (xs ys : List X) → Rearranged xs ys → list_any p xs ≡ list_any p ys
  list_any-alike p _ _ none = refl
  list_any-alike p _ _ (kept x xs ys h) = ap (λ b. p x || b) (list_any-alike p xs ys h)
  list_any-alike p _ _ (swapped x y zs) = or_swap (p x) (p y) (list_any p zs)
  list_any-alike p _ _ (both xs ys zs g h) = list_any-alike p xs ys g ∙ list_any-alike p ys zs h

add_swap : (x y t : ℤ) → x +ℤ (y +ℤ t) ≡ y +ℤ (x +ℤ t)
add_swap x y t = omega (arith, ints)

pub total-alike : (xs ys : List ℤ) → Rearranged xs ys → total xs ≡ total ys
total-alike _ _ none = refl
total-alike _ _ (kept x xs ys h) = ap (λ t. x +ℤ t) (total-alike xs ys h)
total-alike _ _ (swapped x y zs) = add_swap x y (total zs)
total-alike _ _ (both xs ys zs g h) = total-alike xs ys g ∙ total-alike ys zs h

min_comm : (x y : ℤ) → int_min x y ≡ int_min y x
min_comm x y = omega (arith, ints, clamps)

min_swap : (x y t : ℤ) → int_min x (int_min y t) ≡ int_min y (int_min x t)
min_swap x y t = omega (arith, ints, clamps)

lesser_swap : (x y : ℤ) (o : Option ℤ) → lesser (Some x) (lesser (Some y) o) ≡ lesser (Some y) (lesser (Some x) o)
lesser_swap x y None = ap Some (min_comm x y)
lesser_swap x y (Some t) = ap Some (min_swap x y t)

pub least-alike : (xs ys : List ℤ) → Rearranged xs ys → least xs ≡ least ys
least-alike _ _ none = refl
least-alike _ _ (kept x xs ys h) = ap (lesser (Some x)) (least-alike xs ys h)
least-alike _ _ (swapped x y zs) = lesser_swap x y (least zs)
least-alike _ _ (both xs ys zs g h) = least-alike xs ys g ∙ least-alike ys zs h

max_comm : (x y : ℤ) → int_max x y ≡ int_max y x
max_comm x y = omega (arith, ints, clamps)

max_swap : (x y t : ℤ) → int_max x (int_max y t) ≡ int_max y (int_max x t)
max_swap x y t = omega (arith, ints, clamps)

greater_swap : (x y : ℤ) (o : Option ℤ) → greater (Some x) (greater (Some y) o) ≡ greater (Some y) (greater (Some x) o)
greater_swap x y None = ap Some (max_comm x y)
greater_swap x y (Some t) = ap Some (max_swap x y t)

pub greatest-alike : (xs ys : List ℤ) → Rearranged xs ys → greatest xs ≡ greatest ys
greatest-alike _ _ none = refl
greatest-alike _ _ (kept x xs ys h) = ap (greater (Some x)) (greatest-alike xs ys h)
greatest-alike _ _ (swapped x y zs) = greater_swap x y (greatest zs)
greatest-alike _ _ (both xs ys zs g h) = greatest-alike xs ys g ∙ greatest-alike ys zs h

-- two values that aren't equal, each of which may come again later
distinct_swap : (x y : ℤ) (d : List ℤ) (a b : Bool) → Rearranged (cond a (cond b d (y ∷ d)) (x ∷ cond b d (y ∷ d))) (cond b (cond a d (x ∷ d)) (y ∷ cond a d (x ∷ d)))
distinct_swap x y d true true = unmoved d
distinct_swap x y d true false = unmoved (y ∷ d)
distinct_swap x y d false true = unmoved (x ∷ d)
distinct_swap x y d false false = swapped x y d

distinct_swapped : (x y : ℤ) (zs : List ℤ) (b : Bool) → int_eq x y ≡ b → Rearranged (distinct (x ∷ y ∷ zs)) (distinct (y ∷ x ∷ zs))
distinct_swapped x y zs true e = subst (λ (z : ℤ). Rearranged (distinct (x ∷ z ∷ zs)) (distinct (z ∷ x ∷ zs))) ((Decides-int_eq x y).0 e) (unmoved (distinct (x ∷ x ∷ zs)))
distinct_swapped x y zs false e = let back : int_eq y x ≡ false = int_eq_equiv.symm y x ∙ e in rw (e, back) (distinct_swap x y (distinct zs) (list_any (int_eq x) zs) (list_any (int_eq y) zs))

once_more : (x : ℤ) (xs ys : List ℤ) (b : Bool) → Rearranged xs ys → Rearranged (cond b xs (x ∷ xs)) (cond b ys (x ∷ ys))
once_more x xs ys true h = h
once_more x xs ys false h = kept x xs ys h

pub Rearranged-distinct : (xs ys : List ℤ) → Rearranged xs ys → Rearranged (distinct xs) (distinct ys)
Rearranged-distinct _ _ none = none
Rearranged-distinct _ _ (kept x xs ys h) =
    subst (λ (b : Bool). Rearranged (distinct (x ∷ xs)) (cond b (distinct ys) (x ∷ distinct ys))) (list_any-alike (int_eq x) xs ys h)
    (once_more x _ _ (list_any (int_eq x) xs) (Rearranged-distinct xs ys h))
Rearranged-distinct _ _ (swapped x y zs) = distinct_swapped x y zs (int_eq x y) refl
Rearranged-distinct _ _ (both xs ys zs g h) = both _ _ _ (Rearranged-distinct xs ys g) (Rearranged-distinct ys zs h)

or_null-alike : (xs ys : List ℤ) (n : ℤ) → length xs ≡ length ys → or_null xs n ≡ or_null ys n
or_null-alike [] [] n e = refl
or_null-alike [] (y ∷ ys) n e = absurd (omega arith)
or_null-alike (x ∷ xs) [] n e = absurd (omega arith)
or_null-alike (x ∷ xs) (y ∷ ys) n e = refl

pub total_or_null-alike : (xs ys : List ℤ) → Rearranged xs ys → total_or_null xs ≡ total_or_null ys
total_or_null-alike xs ys h = or_null-alike xs ys (total xs) (length-alike xs ys h) ∙ ap (or_null ys) (total-alike xs ys h)

pub mean-alike : (xs ys : List ℤ) → Rearranged xs ys → mean xs ≡ mean ys
mean-alike xs ys h =
    or_null-alike xs ys _ (length-alike xs ys h)
    ∙ (λ i. or_null ys (int_div (total-alike xs ys h i *ℤ pos 1000000) (pos (length-alike xs ys h i))))
