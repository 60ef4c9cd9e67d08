-- Bit p of word j is row 64 * j + p.
use Rattle.std.proofs.Common.{◌∙◌, arith}
use Rattle.std.specs.Ordering.{int_eq}
use Rattle.transpose_order.proofs.MaskLemmas.{rows_of-words}
use Rattle.bit_interleave.specs.Range.{value_at}
use Rattle.fused_kernels.proofs.columns.equal_rows.Goals as goal

pub returns : goal.returns
returns c =
    c.from_words.ensures
    ∙ rows_of-words c.loop-j.words (λ n. int_eq (value_at c.args.left.now n) (value_at c.args.right.now n)) (λ j p h k. c.loop-j.invariant.done j p (omega arith) k)
