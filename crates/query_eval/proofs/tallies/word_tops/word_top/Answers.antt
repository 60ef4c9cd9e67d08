-- One row more.
use Rattle.std.proofs.Common.{rules, ◌≡◌, ◌+◌, ◌<◌, ◌≤◌, ◌⊎◌, inl, inr, ◌≤ℤ◌, ℕ, ℤ, get_or, pos, FitsSigned, w64, to_z, of_z, ap, subst, ◌∙◌, arith}
use Rattle.std.specs.Int.{int_max}
use Rattle.std.proofs.lemmas.Bool.{cases_lt}
use Rattle.std.proofs.lemmas.Int.{clamps, ints, to_z-of_z}
use Rattle.query_eval.proofs.tallies.word_tops.word_top.Goals as goal

pub loop-bit-preserved : goal.loop-bit-preserved
loop-bit-preserved c = λ b l. by_bit b l (cases_lt b bit)
  where
    bit : ℕ
    bit = c.loop-bit.bit

    top : ℤ
    top = to_z w64 c.loop-bit.top-bits

    x : ℤ
    x = get_or c.args.shown.now (c.args.first + bit) (pos 0)

    fits : FitsSigned w64 x
    fits = search rules

    now : FitsSigned w64 c.max-top.result
    now = search rules

    is : to_z w64 (of_z w64 c.max-top.result) ≡ int_max top x
    is = to_z-of_z w64 c.max-top.result now ∙ c.max-top.ensures.value ∙ ap (int_max top) (to_z-of_z w64 x fits)

    by_bit : (b : ℕ) → b < bit + 1 → (b < bit) ⊎ (bit ≤ b) → get_or c.args.shown.now (c.args.first + b) (pos 0) ≤ℤ to_z w64 (of_z w64 c.max-top.result)
    by_bit b l (inl below) = let before = c.loop-bit.invariant b below in omega (arith, ints, clamps, is, before)
    by_bit b l (inr h) =
        let e : bit ≡ b = omega (arith, l, h) in
        subst (λ (k : ℕ). get_or c.args.shown.now (c.args.first + k) (pos 0) ≤ℤ to_z w64 (of_z w64 c.max-top.result)) e (omega (arith, ints, clamps, is))
