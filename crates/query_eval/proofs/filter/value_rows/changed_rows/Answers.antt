-- Each bit of each word is a row's.
use Rattle.std.proofs.Common.{◌==◌, ◌+◌, ◌*◌, ap, ◌∙◌, arith}
use Rattle.std.specs.Int.{bit_at}
use Rattle.transpose_order.proofs.MaskLemmas.{rows_of-words}
use Rattle.query_eval.specs.Slices.{differs_at}
use Rattle.query_eval.proofs.MaskedLemmas.{test_bit}
use Rattle.query_eval.proofs.filter.value_rows.changed_rows.Goals as goal

pub returns : goal.returns
returns c =
    c.from_words.ensures
    ∙ rows_of-words c.loop-index.words (differs_at c.args.values.now)
    (λ j p h k. ap (λ w. bit_at w p == 1) (c.loop-index.invariant.done j (omega (arith, h, c.loop-index-test.false))) ∙ test_bit (λ b. differs_at c.args.values.now (64 * j + b)) p k)
