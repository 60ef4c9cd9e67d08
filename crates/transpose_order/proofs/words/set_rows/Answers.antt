-- Each word is written once, in the part of the range that lies in it.
use Rattle.std.proofs.Common.{◌/◌, if◌then◌else◌, ◌%◌, ap, ◌∙◌, arith}
use Rattle.transpose_order.specs.Mask.{truth_at}
use Rattle.transpose_order.proofs.MaskLemmas.{in_range_of_word}
use Rattle.transpose_order.proofs.words.set_rows.Goals as goal

pub returns-clause-rows : goal.returns-clause-rows
returns-clause-rows c = λ n h.
    c.loop-j.invariant.written (n / 64) (n % 64) (omega arith) (omega arith)
    ∙ ap (λ b. if b then c.args.value else truth_at c.args.words.now n) (in_range_of_word c.args.first c.args.end n)

pub returns-clause-words : goal.returns-clause-words
returns-clause-words c = record { count = c.loop-j.invariant.count; fit = c.loop-j.invariant.fit }
