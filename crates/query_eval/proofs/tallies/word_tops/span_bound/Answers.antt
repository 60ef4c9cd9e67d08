-- One word more.
use Rattle.std.proofs.Common.{rules, ◌≡◌, ◌+◌, ◌/◌, ◌<◌, ◌≤◌, ◌⊎◌, inl, inr, ◌≤ℤ◌, ℕ, ℤ, get_or, pos, FitsSigned, w64, to_z, of_z, ap, subst, ◌∙◌, arith}
use Rattle.std.specs.Int.{int_max}
use Rattle.std.proofs.lemmas.Bool.{cases_lt}
use Rattle.std.proofs.lemmas.Int.{clamps, ints, to_z-of_z}
use Rattle.query_eval.proofs.tallies.word_tops.span_bound.Goals as goal

pub loop-index-preserved : goal.loop-index-preserved
loop-index-preserved c = λ j m l. by_word j m l (cases_lt j index)
  where
    index : ℕ
    index = c.loop-index.index

    bound : ℤ
    bound = to_z w64 c.loop-index.bound-bits

    x : ℤ
    x = get_or c.args.tops.now index (pos 0)

    fits : FitsSigned w64 x
    fits = search rules

    now : FitsSigned w64 c.max-bound.result
    now = search rules

    is : to_z w64 (of_z w64 c.max-bound.result) ≡ int_max bound x
    is = to_z-of_z w64 c.max-bound.result now ∙ c.max-bound.ensures.value ∙ ap (int_max bound) (to_z-of_z w64 x fits)

    by_word : (j : ℕ) → c.args.first / 64 ≤ j → j < index + 1 → (j < index) ⊎ (index ≤ j) → get_or c.args.tops.now j (pos 0) ≤ℤ to_z w64 (of_z w64 c.max-bound.result)
    by_word j m l (inl below) = let before = c.loop-index.invariant j m below in omega (arith, ints, clamps, is, before)
    by_word j m l (inr h) =
        let e : index ≡ j = omega (arith, l, h) in
        subst (λ (k : ℕ). get_or c.args.tops.now k (pos 0) ≤ℤ to_z w64 (of_z w64 c.max-bound.result)) e (omega (arith, ints, clamps, is))

pub returns : goal.returns
returns c = λ n h l. c.loop-index.invariant (n / 64) (omega (arith, h)) (omega (arith, h, l, c.loop-index-test.false))
