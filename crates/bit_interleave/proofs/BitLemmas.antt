-- One bit of what shifts and masks make.
use Rattle.std.proofs.Common.{◌≡◌, ℕ, ◌-◌, ◌*◌, ◌/◌, ◌%◌, ◌^◌, ◌<◌, ◌≤◌, bit_and, ap, ◌∙◌, arith}
use Rattle.std.specs.Int.{bit_at}
use Rattle.std.proofs.lemmas.Nat.{and_mask, pow_pos}
use Rattle.transpose_order.proofs.BitLemmas.{bit_at-mod}
use Rattle.std.proofs.lemmas.Nat.Bits.{bit_at_cat_low, bit_at_cat_high, bit_at-zero, ones_shr}

-- a shift to the left brings zeros in
pub bit_at-shl_low : (x k i : ℕ) → i < k → i < 64 → bit_at (x * 2 ^ k % 2 ^ 64) i ≡ 0
bit_at-shl_low x k i h within =
    bit_at-mod (x * 2 ^ k) 64 i within ∙ ap (λ y. bit_at y i) (omega arith) ∙ bit_at_cat_low x k 0 i h ∙ bit_at-zero i

pub bit_at-shl_high : (x k i : ℕ) → k ≤ i → i < 64 → bit_at (x * 2 ^ k % 2 ^ 64) i ≡ bit_at x (i - k)
bit_at-shl_high x k i h within =
    bit_at-mod (x * 2 ^ k) 64 i within ∙ ap (λ y. bit_at y i) (omega arith) ∙ bit_at_cat_high x k 0 i (pow_pos k) h

-- the mask of `width` ones keeps the low bits
pub low_ones : (x width : ℕ) → width ≤ 64 → bit_and x ((2 ^ 64 - 1) / 2 ^ (64 - width)) ≡ x % 2 ^ width
low_ones x width h =
    let ones : (2 ^ 64 - 1) / 2 ^ (64 - width) ≡ 2 ^ (64 - (64 - width)) - 1 = ones_shr 64 (64 - width) (omega arith) in
    let same : 64 - (64 - width) ≡ width = omega arith in
    ap (bit_and x) (ones ∙ ap (λ k. 2 ^ k - 1) same) ∙ and_mask x width
