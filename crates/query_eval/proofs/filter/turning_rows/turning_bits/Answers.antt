-- Each bit is compared with the one before.
use Rattle.std.proofs.Common.{rules, ◌≡◌, ◌==◌, ◌+◌, ◌-◌, ◌*◌, ◌/◌, ◌%◌, ◌^◌, ◌<◌, ℕ, bit_or, bit_xor, false, ap, sym, ◌∙◌, arith}
use Rattle.std.specs.Int.{bit_at}
use Rattle.std.proofs.lemmas.Bool.Decides.{nat_tests}
use Rattle.std.proofs.lemmas.Nat.{pow_pos}
use Rattle.std.proofs.lemmas.Nat.Bits.{bit_at-lt, bit_at-zero, bit_at_above, bit_at_cat_high, bit_at_cat_low, bit_at_or, bit_at_xor}
use Rattle.transpose_order.proofs.BitLemmas.{bit_at-mod, bit_at-shr}
use Rattle.query_eval.proofs.filter.turning_rows.turning_bits.Goals as goal

-- two bits whose sum is even are the same
alike : (x y : ℕ) → x < 2 → y < 2 → ((x + y) % 2 == 1) ≡ false → (x == 1) ≡ (y == 1)
alike x y l m e = grind (arith, nat_tests)

module _ (word before : ℕ) (fits : before < 2 ^ 64) where
  abbrev moved : ℕ
  moved = bit_or (word * 2 ^ 1 % 2 ^ 64) (before / 2 ^ 63)

  moved_inside : (b : ℕ) → b + 1 < 64 → bit_at moved (b + 1) ≡ bit_at word b
  moved_inside b l =
      let last : bit_at (before / 2 ^ 63) (b + 1) ≡ 0 = bit_at_above (before / 2 ^ 63) 1 (b + 1) (omega (arith, fits)) (omega arith) in
      let shift : bit_at (word * 2 ^ 1 % 2 ^ 64) (b + 1) ≡ bit_at word b =
      bit_at-mod (word * 2 ^ 1) 64 (b + 1) l ∙ ap (λ y. bit_at y (b + 1)) (omega arith) ∙ bit_at_cat_high word 1 0 (b + 1) (pow_pos 1) (omega arith) ∙ ap (bit_at word) (let e : b + 1 - 1 ≡ b = omega arith in e) in
      bit_at_or (word * 2 ^ 1 % 2 ^ 64) (before / 2 ^ 63) (b + 1) ∙ omega (arith, last, shift)

  moved_first : bit_at moved 0 ≡ bit_at before 63
  moved_first =
      let shift : bit_at (word * 2 ^ 1 % 2 ^ 64) 0 ≡ 0 = bit_at-mod (word * 2 ^ 1) 64 0 (omega arith) ∙ ap (λ y. bit_at y 0) (omega arith) ∙ bit_at_cat_low word 1 0 0 (omega arith) ∙ bit_at-zero 0 in
      bit_at_or (word * 2 ^ 1 % 2 ^ 64) (before / 2 ^ 63) 0 ∙ omega (arith, shift, bit_at-shr before 63 0)

  inside : (b : ℕ) → b + 1 < 64 → (bit_at (bit_xor word moved) (b + 1) == 1) ≡ false → (bit_at word (b + 1) == 1) ≡ (bit_at word b == 1)
  inside b l off = alike (bit_at word (b + 1)) (bit_at word b) (bit_at-lt word (b + 1)) (bit_at-lt word b) (ap (λ x. (bit_at word (b + 1) + x) % 2 == 1) (sym (moved_inside b l)) ∙ sym (ap (λ x. x == 1) (bit_at_xor word moved (b + 1))) ∙ off)

  joint : (bit_at (bit_xor word moved) 0 == 1) ≡ false → (bit_at word 0 == 1) ≡ (bit_at before 63 == 1)
  joint off = alike (bit_at word 0) (bit_at before 63) (bit_at-lt word 0) (bit_at-lt before 63) (ap (λ x. (bit_at word 0 + x) % 2 == 1) (sym moved_first) ∙ sym (ap (λ x. x == 1) (bit_at_xor word moved 0)) ∙ off)

pub returns : goal.returns
returns c =
    let fits : c.args.before < 2 ^ 64 = search rules in
    record { inside = inside c.args.word c.args.before fits; joint = joint c.args.word c.args.before fits }
