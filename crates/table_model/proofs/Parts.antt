-- To pick a list's elements key by key, over keys that all differ and among which each element's key is, is to rearrange it.
use Rattle.std.specs.Prelude.{◌≡◌, Bool, true, false, cond, not, ◌&&◌, ◌||◌, List, [], ◌∷◌, ◌++◌, filter}
use Rattle.std.specs.List.{flat_map, list_any, list_all}
use Rattle.std.specs.List.Sorted.{IsPermutation}
use Rattle.std.proofs.Common.{refl, sym, ap, subst, ◌∙◌}
use Rattle.std.proofs.lemmas.Bool.{and_parts, or_parts, false≢true}
use Rattle.std.proofs.lemmas.List.Sorted.{IsPermutation-refl, IsPermutation-filter_both, IsPermutation-append_right, IsPermutation-trans}

-- no key comes again
abbrev pub AreApart : {K : Type 0} → (K → K → Bool) → List K → Type 0
AreApart same [] = Unit {0}
AreApart same (k ∷ ks) = (list_any (same k) ks ≡ false) × AreApart same ks

module _ {X K : Type 0} (same : K → K → Bool) (one : (a b : K) → same a b ≡ true → a ≡ b) (key : X → K) where
  -- the elements that have the key
  abbrev picked : K → List X → List X
  picked k xs = filter (λ x. same k (key x)) xs

  -- the other elements
  abbrev other : K → List X → List X
  other k xs = filter (λ x. not (same k (key x))) xs

  -- the element's key is one of these
  abbrev among : List K → X → Bool
  among ks x = list_any (λ k. same k (key x)) ks

  none_among : (xs : List X) → list_all (among []) xs ≡ true → xs ≡ []
  none_among [] e = refl
  none_among (x ∷ xs) e = absurd (false≢true e)

  among_rest : (ks : List K) (b : Bool) (x : X) (rest : List X) → (b || among ks x) ≡ true → list_all (among ks) rest ≡ true → list_all (among ks) (cond (not b) (x ∷ rest) rest) ≡ true
  among_rest ks true x rest h r = r
  among_rest ks false x rest h r = ap (λ c. c && list_all (among ks) rest) h ∙ r

  other_among : (k : K) (ks : List K) (xs : List X) → list_all (among (k ∷ ks)) xs ≡ true → list_all (among ks) (other k xs) ≡ true
  other_among k ks [] e = refl
  other_among k ks (x ∷ xs) e =
      let parts = and_parts (same k (key x) || among ks x) (list_all (among (k ∷ ks)) xs) e in
      among_rest ks (same k (key x)) x (other k xs) parts.0 (other_among k ks xs parts.1)

  never_both : (k m : K) (x : X) → same k m ≡ false → same k (key x) ≡ true → same m (key x) ≡ true → ⊥
  never_both k m x apart a b = false≢true (sym apart ∙ ap (same k) (one m (key x) b) ∙ a)

  picked_one : (m : K) (b c : Bool) (x : X) (rest xs : List X) → same m (key x) ≡ c → (b ≡ true → c ≡ true → ⊥) → picked m rest ≡ picked m xs → picked m (cond (not b) (x ∷ rest) rest) ≡ cond c (x ∷ picked m xs) (picked m xs)
  picked_one m true true x rest xs is apart e = absurd (apart refl refl)
  picked_one m true false x rest xs is apart e = e
  picked_one m false c x rest xs is apart e = λ i. cond (is i) (x ∷ e i) (e i)

  picked_other : (k m : K) (xs : List X) → same k m ≡ false → picked m (other k xs) ≡ picked m xs
  picked_other k m [] apart = refl
  picked_other k m (x ∷ xs) apart = picked_one m (same k (key x)) (same m (key x)) x (other k xs) xs refl (never_both k m x apart) (picked_other k m xs apart)

  all_picked_other : (k : K) (ms : List K) (xs : List X) → list_any (same k) ms ≡ false → flat_map (λ m. picked m (other k xs)) ms ≡ flat_map (λ m. picked m xs) ms
  all_picked_other k [] xs apart = refl
  all_picked_other k (m ∷ ms) xs apart =
      let parts = or_parts (same k m) (list_any (same k) ms) apart in
      λ i. picked_other k m xs parts.0 i ++ all_picked_other k ms xs parts.1 i

  pub picked_all : (ks : List K) (xs : List X) → AreApart same ks → list_all (among ks) xs ≡ true → IsPermutation xs (flat_map (λ k. picked k xs) ks)
  picked_all [] xs apart all = subst (λ (l : List X). IsPermutation l []) (sym (none_among xs all)) (IsPermutation-refl [])
  picked_all (k ∷ ks) xs apart all =
      let rest : IsPermutation (other k xs) (flat_map (λ m. picked m xs) ks) = subst (IsPermutation (other k xs)) (all_picked_other k ks xs apart.0) (picked_all ks (other k xs) apart.1 (other_among k ks xs all)) in
      IsPermutation-trans xs (picked k xs ++ other k xs) (picked k xs ++ flat_map (λ m. picked m xs) ks)
      (IsPermutation-filter_both (λ x. same k (key x)) (λ x. not (same k (key x))) (λ x. refl) xs)
      (IsPermutation-append_right (picked k xs) (other k xs) (flat_map (λ m. picked m xs) ks) rest)
