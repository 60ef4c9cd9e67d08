-- Whether of the rows that are not the first of their lane a mask has one and lacks another is seen at two masks.
use Rattle.std.proofs.Common.{◌≡◌, ℕ, ◌%◌, ◌/◌, ◌<◌, ◌==◌, Bool, true, false, not, ◌&&◌, List, replicate, refl, sym, ◌∙◌, ap, arith}
use Rattle.std.specs.Int.{bit_at}
use Rattle.std.proofs.lemmas.Bool.{and_parts, and_from, not_from_false, false≢true}
use Rattle.std.proofs.lemmas.List.{get_or-replicate}
use Rattle.transpose_order.specs.Place.{IsLaneWidth}
use Rattle.transpose_order.specs.Mask.{rows_of, has, truth_at}
use Rattle.transpose_order.specs.MaskWords.{has-rows_of}
use Rattle.transpose_order.proofs.WidthLemmas.{at_widths}
use Rattle.frame_delta.specs.Delta.{is_later}
use Rattle.segment_core.specs.LaterRows.{IsMixedWithin}

-- ---- the rows that are not the first of their lane
place_in_lane : (t n : ℕ) → IsLaneWidth t → n % 64 % t ≡ n % t
place_in_lane t n width =
    at_widths (λ t. n % 64 % t ≡ n % t) (omega arith) (omega arith) (omega arith) (omega arith) t width

-- they are the same in each word
pub later_in_words : (t word : ℕ) → IsLaneWidth t → ((place : ℕ) → place < 64 → (bit_at word place == 1) ≡ is_later t place) → (n : ℕ) → n < 1024 → has (rows_of (truth_at (replicate 16 word))) n ≡ is_later t n
later_in_words t word width h n l =
    has-rows_of (truth_at (replicate 16 word)) n l
    ∙ ap (λ w. bit_at w (n % 64) == 1) (get_or-replicate 16 (n / 64) word 0 (omega arith))
    ∙ h (n % 64) (omega arith)
    ∙ ap (λ r. not (r == 0)) (place_in_lane t n width)

-- ---- such rows that a mask has, and such rows that it lacks
not_has : (b : Bool) → not b ≡ true → b ≡ false
not_has true h = absurd (cc)
not_has false h = refl

module _ (t : ℕ) (mask later had lacked : List Bool) (lateness : (n : ℕ) → n < 1024 → has later n ≡ is_later t n) (had_is : had ≡ rows_of (λ n. has later n && has mask n)) (lacked_is : lacked ≡ rows_of (λ n. has later n && not (has mask n))) where
  had_at : (n : ℕ) → n < 1024 → has had n ≡ (is_later t n && has mask n)
  had_at n l =
      ap (λ (m : List Bool). has m n) had_is ∙ has-rows_of (λ n. has later n && has mask n) n l ∙ ap (λ b. b && has mask n) (lateness n l)

  lacked_at : (n : ℕ) → n < 1024 → has lacked n ≡ (is_later t n && not (has mask n))
  lacked_at n l =
      ap (λ (m : List Bool). has m n) lacked_is ∙ has-rows_of (λ n. has later n && not (has mask n)) n l ∙ ap (λ b. b && not (has mask n)) (lateness n l)

  pub is_mixed : (i j : ℕ) → i < 1024 → has had i ≡ true → j < 1024 → has lacked j ≡ true → IsMixedWithin t mask
  is_mixed i j l h m k =
      let one = and_parts (is_later t i) (has mask i) (sym (had_at i l) ∙ h) in
      let other = and_parts (is_later t j) (not (has mask j)) (sym (lacked_at j m) ∙ k) in
      record { had = (i, l, one.0, one.1); lacked = (j, m, other.0, not_has (has mask j) other.1) }

  pub none_had : ((n : ℕ) → n < 1024 → has had n ≡ false) → IsMixedWithin t mask → ⊥
  none_had none mixed =
      let (n, l, later, m) = mixed.had in
      false≢true (sym (none n l) ∙ had_at n l ∙ and_from (is_later t n) (has mask n) later m)

  pub none_lacked : ((n : ℕ) → n < 1024 → has lacked n ≡ false) → IsMixedWithin t mask → ⊥
  none_lacked none mixed =
      let (n, l, later, m) = mixed.lacked in
      false≢true (sym (none n l) ∙ lacked_at n l ∙ and_from (is_later t n) (not (has mask n)) later (not_from_false (has mask n) m))
