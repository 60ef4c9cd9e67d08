-- Each bit of each word is a row's.
use Rattle.std.proofs.Common.{◌==◌, ◌+◌, ◌*◌, ℕ, Bool, get_or, int_lt, pos, ap, ◌∙◌, arith}
use Rattle.std.specs.Int.{bit_at}
use Rattle.transpose_order.proofs.MaskLemmas.{rows_of-words}
use Rattle.query_eval.proofs.MaskedLemmas.{test_bit}
use Rattle.query_eval.proofs.answers.compared_rows.less_rows.Goals as goal

pub returns : goal.returns
returns c =
    let below : ℕ → Bool = λ n. int_lt (get_or c.args.left.now n (pos 0)) (get_or c.args.right.now n (pos 0)) in
    c.from_words.ensures
    ∙ rows_of-words c.loop-index.words below
    (λ j p h k. ap (λ w. bit_at w p == 1) (c.loop-index.invariant.done j (omega (arith, h, c.loop-index-test.false))) ∙ test_bit (λ b. below (64 * j + b)) p k)
