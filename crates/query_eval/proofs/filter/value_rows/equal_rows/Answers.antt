-- Each bit of each word is a row's.
use Rattle.std.proofs.Common.{rules, ◌≡◌, ◌==◌, ◌+◌, ◌*◌, ℕ, ℤ, Bool, get_or, pos, FitsSigned, w64, of_z, to_z, ap, ◌∙◌, subst, arith}
use Rattle.std.specs.Int.{bit_at}
use Rattle.std.specs.Ordering.{int_eq}
use Rattle.std.proofs.lemmas.Int.{to_z-of_z}
use Rattle.transpose_order.specs.Mask.{rows_of}
use Rattle.transpose_order.proofs.MaskLemmas.{rows_of-words}
use Rattle.query_eval.proofs.MaskedLemmas.{test_bit}
use Rattle.query_eval.proofs.filter.value_rows.equal_rows.Goals as goal

pub returns : goal.returns
returns c =
    let fits : FitsSigned w64 c.args.value = search rules in
    let same : ℕ → Bool = λ n. int_eq (to_z w64 (of_z w64 c.args.value)) (get_or c.args.values.now n (pos 0)) in
    subst (λ (z : ℤ). c.from_words.result ≡ rows_of (λ n. int_eq z (get_or c.args.values.now n (pos 0)))) (to_z-of_z w64 c.args.value fits)
    (c.from_words.ensures
    ∙ rows_of-words c.loop-index.words same
    (λ j p h k. ap (λ w. bit_at w p == 1) (c.loop-index.invariant.done j (omega (arith, h, c.loop-index-test.false))) ∙ test_bit (λ b. same (64 * j + b)) p k))
