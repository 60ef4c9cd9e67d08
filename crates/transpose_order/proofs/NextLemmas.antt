-- The lowest set bit of what is left of a word is the next true row.
use Rattle.std.proofs.Common.{◌≡◌, ◌==◌, ℕ, ◌+◌, ◌-◌, ◌*◌, ◌/◌, ◌^◌, ◌<◌, ◌≤◌, true, false, List, slice_index_or, ◌⊎◌, inl, inr, sym, ap, ◌∙◌, arith}
use Rattle.std.specs.Int.{bit_at, w64, trailing_zeros}
use Rattle.std.proofs.lemmas.Bool.{cases_lt}
use Rattle.std.proofs.lemmas.Nat.Bits.{bit_at-trailing_zeros, bit_at_above, bit_at-zero}
use Rattle.transpose_order.specs.Mask.{truth_at}
use Rattle.transpose_order.specs.MaskWords.{truth_at-place}
use Rattle.transpose_order.proofs.BitLemmas.{bit_at-shr}

-- what is left of word j from bit s on
bit_of_rest : (words : List ℕ) (j s rest i : ℕ) → rest ≡ slice_index_or words j 0 / 2 ^ s → s + i < 64 → truth_at words (64 * j + (s + i)) ≡ (bit_at rest i == 1)
bit_of_rest words j s rest i is l =
    truth_at-place words j (s + i) l ∙ ap (λ b. b == 1) (sym (bit_at-shr (slice_index_or words j 0) s i)) ∙ ap (λ r. bit_at r i == 1) (sym is)

-- the lowest set bit
pub first_of_rest : (words : List ℕ) (j s rest : ℕ) → s < 64 → rest ≡ slice_index_or words j 0 / 2 ^ s → slice_index_or words j 0 < 2 ^ 64 → rest < 2 ^ 64 → 0 < rest
    → (s + trailing_zeros w64 rest < 64) × ((n : ℕ) → 64 * j + s ≤ n → n < 64 * j + s + trailing_zeros w64 rest → truth_at words n ≡ false) × (truth_at words (64 * j + s + trailing_zeros w64 rest) ≡ true)
first_of_rest words j s rest l is fits small some =
    let zeros = bit_at-trailing_zeros w64 rest some small in
    let z = trailing_zeros w64 rest in
    let inside : s + z < 64 = by_place (cases_lt (s + z) 64) zeros.1 in (
      inside,
      (λ n from below.
          let i = n - (64 * j + s) in
          let place : 64 * j + (s + i) ≡ n = omega arith in
          ap (truth_at words) (sym place) ∙ bit_of_rest words j s rest i is (omega arith) ∙ ap (λ b. b == 1) (zeros.2 i (omega arith))),
      ap (truth_at words) (let place : 64 * j + s + z ≡ 64 * j + (s + z) = omega arith in place) ∙ bit_of_rest words j s rest z is inside ∙ ap (λ b. b == 1) zeros.1,
    )
  where
    by_place : (s + trailing_zeros w64 rest < 64) ⊎ (64 ≤ s + trailing_zeros w64 rest) → bit_at rest (trailing_zeros w64 rest) ≡ 1 → s + trailing_zeros w64 rest < 64
    by_place (inl p) _ = p
    by_place (inr p) set =
        let none : bit_at rest (trailing_zeros w64 rest) ≡ 0 =
        ap (λ r. bit_at r (trailing_zeros w64 rest)) is ∙ bit_at-shr (slice_index_or words j 0) s (trailing_zeros w64 rest) ∙ bit_at_above (slice_index_or words j 0) 64 _ fits p in
        absurd (omega (arith, none, set))

-- no bit is set
pub none_of_rest : (words : List ℕ) (j s rest : ℕ) → rest ≡ slice_index_or words j 0 / 2 ^ s → rest ≡ 0 → (n : ℕ) → 64 * j + s ≤ n → n < 64 * (j + 1) → truth_at words n ≡ false
none_of_rest words j s rest is none n from below =
    let i = n - (64 * j + s) in
    let place : 64 * j + (s + i) ≡ n = omega arith in
    ap (truth_at words) (sym place) ∙ bit_of_rest words j s rest i is (omega arith) ∙ ap (λ r. bit_at r i == 1) none ∙ ap (λ b. b == 1) (bit_at-zero i)
