-- Lists with the same elements in another order, step by step, and what such steps leave.
use Rattle.std.specs.Prelude.{ℕ, zero, suc, ◌<◌, List, [], ◌∷◌, length}
use Rattle.std.specs.List.{swap}
use Rattle.std.specs.List.Sorted.{IsPermutation}
use Rattle.std.proofs.Common.{subst, arith, set, get_or}
use Rattle.std.proofs.lemmas.List.Edits.{swap_is}
use Rattle.std.proofs.lemmas.List.Sorted.{IsPermutation-keeps}

-- one list is the other in another order
pub data Rearranged {X : Type 0} : List X → List X → Type 0 where
  none : Rearranged [] []
  kept : (x : X) (xs ys : List X) → Rearranged xs ys → Rearranged (x ∷ xs) (x ∷ ys)
  swapped : (x y : X) (zs : List X) → Rearranged (x ∷ y ∷ zs) (y ∷ x ∷ zs)
  both : (xs ys zs : List X) → Rearranged xs ys → Rearranged ys zs → Rearranged xs zs

module _ {X : Type 0} where
  pub unmoved : (xs : List X) → Rearranged xs xs
  unmoved [] = none
  unmoved (x ∷ xs) = kept x xs xs (unmoved xs)

  -- the first element and another one in each other's place
  exchanged : (a : X) (l : List X) (j : ℕ) (d : X) → j < length l → Rearranged (a ∷ l) (get_or l j d ∷ set l j a)
  exchanged a [] j d h = absurd (omega arith)
  exchanged a (b ∷ l) zero d h = swapped a b l
  exchanged a (b ∷ l) (suc j) d h =
      let further : Rearranged (a ∷ l) (get_or l j d ∷ set l j a) = exchanged a l j d (omega arith) in
      both _ _ _ (swapped a b l) (both _ _ _ (kept b _ _ further) (swapped b (get_or l j d) (set l j a)))

  moved : (l : List X) (i j : ℕ) (d : X) → i < length l → j < length l → Rearranged l (set (set l i (get_or l j d)) j (get_or l i d))
  moved [] i j d p q = absurd (omega arith)
  moved (a ∷ l) zero zero d p q = unmoved (a ∷ l)
  moved (a ∷ l) zero (suc j) d p q = exchanged a l j d (omega arith)
  moved (a ∷ l) (suc i) zero d p q = exchanged a l i d (omega arith)
  moved (a ∷ l) (suc i) (suc j) d p q = kept a _ _ (moved l i j d (omega arith) (omega arith))

  moved_by_swap : (l : List X) (i j : ℕ) → i < length l → j < length l → Rearranged l (swap l i j)
  moved_by_swap [] i j p q = absurd (omega arith)
  moved_by_swap (d ∷ l) i j p q = subst (Rearranged (d ∷ l)) (swap_is (d ∷ l) i j d p q) (moved (d ∷ l) i j d p q)

  -- each step of a permutation is such an exchange
  pub rearranged : (xs ys : List X) → IsPermutation xs ys → Rearranged xs ys
  rearranged xs ys h = IsPermutation-keeps xs (Rearranged xs) (unmoved xs) (λ l i j p q so. both xs l (swap l i j) so (moved_by_swap l i j p q)) ys h
