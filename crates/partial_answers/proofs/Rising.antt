-- Lists of values that rise: one more at the end, and two one after another.
use Rattle.std.proofs.Common.{◌≡◌, ℕ, zero, suc, ◌+◌, ◌<◌, ◌≤◌, ◌<ℤ◌, ◌&&◌, ltb, append-nil, subst, false, true, List, [], ◌∷◌, ◌++◌, length, get_or, drop, ℤ, pos, refl, sym, ap, ◌∙◌, arith}
use Rattle.std.specs.Cmp.{int_cmp_is}
use Rattle.std.specs.List.{AllByRecursion, IsDistinct}
use Rattle.std.specs.List.Sorted.{IsStrictlySortedBy, IsSorted}
use Rattle.std.specs.Ordering.{int_cmp, int_eq, is_eq, is_lt, ordering_reverse}
use Rattle.std.specs.declared.cmp.Ordering.{Ordering}
use Rattle.std.specs.declared.cmp.Ordering.TheVariants.{Less, Equal, Greater}
use Rattle.std.proofs.lemmas.Cmp.{int_cmp_total}
use Rattle.std.proofs.lemmas.Map.Keys.{Less-from_sorted, apart_from_distinct, sorted_from_all_adjacent}
use Rattle.std.proofs.lemmas.Bool.{false≢true, ltb-true, ltb-false}

-- each is below a value
abbrev pub AreBelow : List ℤ → ℤ → Type 0
AreBelow xs z = AllByRecursion (λ x. int_cmp x z ≡ Less) xs

less_then : (x y z : ℤ) → int_cmp x y ≡ Less → int_cmp y z ≡ Less → int_cmp x z ≡ Less
less_then x y z h k = int_cmp_total.trans x y z h k

pub lower : (xs : List ℤ) (y z : ℤ) → AreBelow xs y → int_cmp y z ≡ Less → AreBelow xs z
lower [] y z h k = tt
lower (x ∷ xs) y z h k = (less_then x y z h.0 k, lower xs y z h.1 k)

pub all_more : (P : ℤ → Type 0) (xs : List ℤ) (z : ℤ) → AllByRecursion P xs → P z → AllByRecursion P (xs ++ z ∷ [])
all_more P [] z h k = (k, tt)
all_more P (x ∷ xs) z h k = (h.0, all_more P xs z h.1 k)

-- those that were below y are below z with y
pub below_more : (xs : List ℤ) (y z : ℤ) → AreBelow xs y → int_cmp y z ≡ Less → AreBelow (xs ++ y ∷ []) z
below_more xs y z h k = all_more (λ x. int_cmp x z ≡ Less) xs y (lower xs y z h k) k

pub rises_more : (xs : List ℤ) (z : ℤ) → IsStrictlySortedBy int_cmp xs → AreBelow xs z → IsStrictlySortedBy int_cmp (xs ++ z ∷ [])
unfolding IsStrictlySortedBy
rises_more [] z h k = (tt, tt)
rises_more (x ∷ xs) z h k = (all_more (λ y. int_cmp x y ≡ Less) xs z h.0 k.0, rises_more xs z h.1 k.1)

all_both : (P : ℤ → Type 0) (xs ys : List ℤ) → AllByRecursion P xs → AllByRecursion P ys → AllByRecursion P (xs ++ ys)
all_both P [] ys h k = k
all_both P (x ∷ xs) ys h k = (h.0, all_both P xs ys h.1 k)

above_all : (x y : ℤ) (ys : List ℤ) → int_cmp x y ≡ Less → AllByRecursion (λ z. int_cmp y z ≡ Less) ys → AllByRecursion (λ z. int_cmp x z ≡ Less) ys
above_all x y [] h k = tt
above_all x y (z ∷ zs) h k = (less_then x y z h k.0, above_all x y zs h k.1)

-- two that rise, of which the first's are below the first of the second's
pub rises_both : (xs : List ℤ) (y : ℤ) (ys : List ℤ) → IsStrictlySortedBy int_cmp xs → IsStrictlySortedBy int_cmp (y ∷ ys) → AreBelow xs y → IsStrictlySortedBy int_cmp (xs ++ y ∷ ys)
unfolding IsStrictlySortedBy
rises_both [] y ys h k b = k
rises_both (x ∷ xs) y ys h k b = (all_both (λ z. int_cmp x z ≡ Less) xs (y ∷ ys) h.0 (b.0, above_all x y ys b.0 k.0), rises_both xs y ys h.1 k b.1)

-- what is behind a place in a list that rises
pub rises_behind : (xs : List ℤ) (i : ℕ) → IsStrictlySortedBy int_cmp xs → IsStrictlySortedBy int_cmp (drop i xs)
unfolding IsStrictlySortedBy
rises_behind [] zero h = h
rises_behind [] (suc i) h = h
rises_behind (x ∷ xs) zero h = h
rises_behind (x ∷ xs) (suc i) h = rises_behind xs i h.1

pub behind_is : (xs : List ℤ) (i : ℕ) → i < length xs → drop i xs ≡ get_or xs i (pos 0) ∷ drop (suc i) xs
behind_is [] i h = absurd (omega arith)
behind_is (x ∷ xs) zero h = refl
behind_is (x ∷ xs) (suc i) h = behind_is xs i (omega arith)

pub none_behind : (xs : List ℤ) (i : ℕ) → length xs ≤ i → drop i xs ≡ []
none_behind [] zero h = refl
none_behind [] (suc i) h = refl
none_behind (x ∷ xs) zero h = absurd (omega arith)
none_behind (x ∷ xs) (suc i) h = none_behind xs i (omega arith)

-- those behind a place, after those below the value there
pub rises_with : (both xs : List ℤ) (i : ℕ) → IsStrictlySortedBy int_cmp both → IsStrictlySortedBy int_cmp xs → i < length xs → AreBelow both (get_or xs i (pos 0)) → IsStrictlySortedBy int_cmp (both ++ drop i xs)
rises_with both xs i h k lt b =
    let rest = rises_behind xs i k in
    rw (behind_is xs i lt) (rises_both both (get_or xs i (pos 0)) (drop (suc i) xs) h (rw (behind_is xs i lt) at rest) b)

less_of : (o p : Ordering) → p ≡ ordering_reverse o → is_lt p ≡ false → is_eq o ≡ false → o ≡ Less
less_of Less p a b c = refl
less_of Equal p a b c = absurd (false≢true (sym c))
less_of Greater p a b c = absurd (false≢true (sym b ∙ ap is_lt a))

-- what is sorted and has no value twice rises
pub rises_sorted : (xs : List ℤ) → IsSorted int_cmp xs → IsDistinct int_eq xs → IsStrictlySortedBy int_cmp xs
rises_sorted xs h k = sorted_from_all_adjacent int_cmp_total xs (pos 0) (λ i lt.
    let x = get_or xs i (pos 0) in
    let y = get_or xs (i + 1) (pos 0) in
    less_of (int_cmp x y) (int_cmp y x) (int_cmp_total.antisymm y x) (h i (pos 0) (omega arith) (omega (arith, lt))) (apart_from_distinct int_eq xs i (i + 1) (pos 0) k (omega arith) (omega (arith, lt))))

tied_back : (o p : Ordering) → p ≡ ordering_reverse o → is_eq o ≡ is_eq p
tied_back Less p a = sym (ap is_eq a)
tied_back Equal p a = sym (ap is_eq a)
tied_back Greater p a = sym (ap is_eq a)

pub flips : (x y : ℤ) → int_eq x y ≡ int_eq y x
flips x y = tied_back (int_cmp x y) (int_cmp y x) (int_cmp_total.antisymm y x)

-- ---- merging, step by step
pub cmp_less : (x y : ℤ) → x <ℤ y → int_cmp x y ≡ Less
cmp_less x y h = sym (int_cmp_is x y Less h)

-- what was below a value of a list that rises is, with it, below the next
pub next_above : (xs both : List ℤ) (i : ℕ) → IsStrictlySortedBy int_cmp xs → i < length xs → AreBelow both (get_or xs i (pos 0)) → i + 1 < length xs → AreBelow (both ++ get_or xs i (pos 0) ∷ []) (get_or xs (i + 1) (pos 0))
next_above xs both i up lt b more = below_more both (get_or xs i (pos 0)) (get_or xs (i + 1) (pos 0)) b (Less-from_sorted int_cmp xs i (i + 1) (pos 0) up (omega arith) more)

with_none : (both zs : List ℤ) → zs ≡ [] → IsStrictlySortedBy int_cmp both → IsStrictlySortedBy int_cmp (both ++ zs)
with_none both zs e h = subst (λ (l : List ℤ). IsStrictlySortedBy int_cmp (both ++ l)) (sym e) (subst (λ (l : List ℤ). IsStrictlySortedBy int_cmp l) (sym (append-nil both)) h)

one_rest : (both ys : List ℤ) (j : ℕ) → IsStrictlySortedBy int_cmp both → IsStrictlySortedBy int_cmp ys → (j < length ys → AreBelow both (get_or ys j (pos 0))) → IsStrictlySortedBy int_cmp (both ++ drop j ys)
one_rest both ys j h k b =
    elim (ltb j (length ys)) as (λ t. ltb j (length ys) ≡ t → IsStrictlySortedBy int_cmp (both ++ drop j ys)) [
      | true ↦ λ e. let lt = ltb-true _ _ e in rises_with both ys j h k lt (b lt)
      | false ↦ λ e. with_none both (drop j ys) (none_behind ys j (ltb-false _ _ e)) h
    ] refl

-- where one of two lists is at its end, the rests come after
pub end_rises : (both xs ys : List ℤ) (i j : ℕ) → IsStrictlySortedBy int_cmp both → IsStrictlySortedBy int_cmp xs → IsStrictlySortedBy int_cmp ys → (ltb i (length xs) && ltb j (length ys)) ≡ false
    → (i < length xs → AreBelow both (get_or xs i (pos 0))) → (j < length ys → AreBelow both (get_or ys j (pos 0))) → IsStrictlySortedBy int_cmp ((both ++ drop i xs) ++ drop j ys)
end_rises both xs ys i j h k l out b c =
    elim (ltb i (length xs)) as (λ t. ltb i (length xs) ≡ t → (t && ltb j (length ys)) ≡ false → IsStrictlySortedBy int_cmp ((both ++ drop i xs) ++ drop j ys)) [
      | true ↦ λ e gone. with_none (both ++ drop i xs) (drop j ys) (none_behind ys j (ltb-false _ _ gone)) (one_rest both xs i h k b)
      | false ↦ λ e _.
          let nothing : both ++ drop i xs ≡ both = ap (λ (r : List ℤ). both ++ r) (none_behind xs i (ltb-false _ _ e)) ∙ append-nil both in
          subst (λ (r : List ℤ). IsStrictlySortedBy int_cmp (r ++ drop j ys)) (sym nothing) (one_rest both ys j h l c)
    ] refl out
