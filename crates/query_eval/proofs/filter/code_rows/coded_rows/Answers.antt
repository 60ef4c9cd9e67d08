-- Each bit of each word is a row's.
use Rattle.std.proofs.Common.{◌≡◌, ◌==◌, ◌&&◌, ℕ, Bool, get_or, ap, ◌∙◌, arith}
use Rattle.transpose_order.specs.Mask.{has, rows_of}
use Rattle.transpose_order.specs.MaskWords.{has-rows_of}
use Rattle.transpose_order.proofs.MaskLemmas.{rows_of-words}
use Rattle.query_eval.proofs.filter.code_rows.coded_rows.Goals as goal

pub returns : goal.returns
returns c n l =
    let same : ℕ → Bool = λ k. get_or c.args.codes.now k 0 == c.args.code in
    let words : c.from_words-coded.result ≡ rows_of same =
    c.from_words-coded.ensures ∙ rows_of-words c.loop-index.words same (λ j p h k. c.loop-index.invariant.done j p (omega (arith, h, c.loop-index-test.false)) k) in
    ap (λ m. has m n) c.and.ensures ∙ has-rows_of (λ k. has c.args.mask.now k && has c.from_words-coded.result k) n l
    ∙ ap (λ b. has c.args.mask.now n && b) (ap (λ m. has m n) words ∙ has-rows_of same n l)
