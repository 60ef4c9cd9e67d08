-- Words whose bits are all set are the greatest of 64 bits.
use Rattle.std.proofs.Common.{◌≡◌, ℕ, ◌-◌, ◌^◌, ◌<◌, slice_index, List, length, replicate, sym, ◌∙◌, arith}
use Rattle.std.specs.Int.{bit_at}
use Rattle.std.proofs.lemmas.Grind.{same_number_lists}
use Rattle.std.proofs.lemmas.List.{get_or-replicate, length-replicate}
use Rattle.std.proofs.lemmas.Nat.Bits.{bit_at_ones}
use Rattle.transpose_order.specs.MaskWords.{number_of_bits_is}

pub words_of_ones : (words : List ℕ) → length words ≡ 16 → ((j : ℕ) → j < 16 → slice_index words j < 2 ^ 64) → ((j p : ℕ) → j < 16 → p < 64 → bit_at (slice_index words j) p ≡ 1) → words ≡ replicate 16 (2 ^ 64 - 1)
words_of_ones words long fit ones =
    same_number_lists words (replicate 16 (2 ^ 64 - 1)) (long ∙ sym (length-replicate 16 (2 ^ 64 - 1)))
    (λ j h. word j (omega (arith, h, long)) ∙ sym (get_or-replicate 16 j (2 ^ 64 - 1) 0 (omega (arith, h, long))))
  where
    word : (j : ℕ) → j < 16 → slice_index words j ≡ 2 ^ 64 - 1
    word j h =
        number_of_bits_is 64 (slice_index words j) (λ _. 1) (fit j h) (λ p l. ones j p h l)
        ∙ sym (number_of_bits_is 64 (2 ^ 64 - 1) (λ _. 1) (omega arith) (λ p l. bit_at_ones 64 p l))
