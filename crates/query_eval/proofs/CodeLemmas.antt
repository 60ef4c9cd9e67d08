-- Slices of a vector's rows by codes: where keys rise, equal keys are equal codes.
use Rattle.std.proofs.Common.{◌≡◌, ◌==◌, ℕ, ◌+◌, ◌<◌, ◌≤◌, ◌⊎◌, inl, inr, Bool, true, false, cond, ◌&&◌, List, [], ◌∷◌, length, get_or, Some, None, ℤ, pos, ◌<ℤ◌, refl, sym, ap, ◌∙◌, arith}
use Rattle.std.specs.Simd.Lanes.{chunk}
use Rattle.std.specs.Ordering.{int_eq}
use Rattle.std.proofs.lemmas.Bool.{cases_lt, false≢true, ne_eqb}
use Rattle.std.proofs.lemmas.Bool.Decides.{Decides-eqb, Decides-int_eq, same_from_decides}
use Rattle.std.proofs.lemmas.Simd.{get_or-chunk, length-chunk}
use Rattle.std.proofs.Math.Bool.{and-true}
use Rattle.table_model.specs.State.{same_cell, same_cells}
use Rattle.query_eval.specs.Coded.{cell_of_code}

-- ---- the codes of 64 rows in lanes
pub length-lanes : (codes : List ℕ) (first count : ℕ) → length codes ≡ 1024 → first + 64 ≤ 1024 → count ≡ 64 → length (chunk 0 64 (chunk first count codes)) ≡ 64
length-lanes codes first count long inside e = length-chunk 0 64 (chunk first count codes) (omega (arith, length-chunk first count codes (omega (arith, long, inside, e)), e))

pub lane_is : (codes : List ℕ) (first count b : ℕ) → count ≡ 64 → b < 64 → get_or (chunk 0 64 (chunk first count codes)) b 0 ≡ get_or codes (first + b) 0
lane_is codes first count b e l =
    get_or-chunk 0 64 (chunk first count codes) b 0 l ∙ ap (λ k. get_or (chunk first count codes) k 0) (let z : 0 + b ≡ b = omega arith in z)
    ∙ get_or-chunk first count codes b 0 (omega (arith, e, l))

-- ---- equal keys are equal codes
module _ (count : ℕ) (keys : List ℤ) (rises : (i j : ℕ) → i < j → j < count → get_or keys i (pos 0) <ℤ get_or keys j (pos 0)) where
  pub key_same : (a b : ℕ) → a < count → b < count → get_or keys a (pos 0) ≡ get_or keys b (pos 0) → a ≡ b
  key_same a b l m e = by_order (cases_lt a b) (cases_lt b a)
    where
      by_order : (a < b) ⊎ (b ≤ a) → (b < a) ⊎ (a ≤ b) → a ≡ b
      by_order (inl h) g = let low = rises a b h m in absurd (grind (arith, low, e))
      by_order (inr h) (inl g) = let low = rises b a g l in absurd (grind (arith, low, e))
      by_order (inr h) (inr g) = omega (arith, h, g)

  pub code_same : (a b : ℕ) → a ≤ count → b ≤ count → (b == a) ≡ same_cells (cell_of_code count keys a ∷ []) (cell_of_code count keys b ∷ [])
  code_same a b l m = by_test (a == count) (b == count) refl refl
    where
      key_a : ℤ
      key_a = get_or keys a (pos 0)

      key_b : ℤ
      key_b = get_or keys b (pos 0)

      below : (k : ℕ) → k ≤ count → (k == count) ≡ false → k < count
      below k h e = by_order (cases_lt k count)
        where
          by_order : (k < count) ⊎ (count ≤ k) → k < count
          by_order (inl g) = g
          by_order (inr g) = let same : k ≡ count = omega (arith, h, g) in absurd (false≢true (sym e ∙ (Decides-eqb k count).1 same))

      by_test : (x y : Bool) → (a == count) ≡ x → (b == count) ≡ y → (b == a) ≡ (same_cell (cond x None (Some key_a)) (cond y None (Some key_b)) && true)
      by_test true true e f = (Decides-eqb b a).1 ((Decides-eqb b count).0 f ∙ sym ((Decides-eqb a count).0 e))
      by_test true false e f = ap (λ k. b == k) ((Decides-eqb a count).0 e) ∙ f
      by_test false true e f = ap (λ k. k == a) ((Decides-eqb b count).0 f) ∙ ne_eqb count a (λ g. false≢true (sym e ∙ (Decides-eqb a count).1 (sym g)))
      by_test false false e f =
          same_from_decides (b == a) (int_eq key_a key_b) (Decides-eqb b a)
          (λ g. sym (key_same a b (below a l e) (below b m f) ((Decides-int_eq key_a key_b).0 g)), λ g. (Decides-int_eq key_a key_b).1 (ap (λ k. get_or keys k (pos 0)) (sym g)))
          ∙ sym (and-true (int_eq key_a key_b))
