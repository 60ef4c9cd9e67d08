-- The ones are set, or cleared.
use Rattle.std.proofs.Common.{◌==◌, if◌then◌else◌, nat_le, nat_lt, ◌&&◌, sym, ap, ◌∙◌, arith}
use Rattle.std.specs.Int.{bit_at, bit_not, w64}
use Rattle.transpose_order.proofs.BitLemmas.{bit_is_set-and, bit_is_set-or, bit_is_set-not, chosen_or, chosen_and_not}
use Rattle.transpose_order.proofs.words.with_bits.Goals as goal

pub returns-then-value : goal.returns-then-value
returns-then-value c = λ p h.
    let b = nat_le c.args.low p && nat_lt p c.args.high in
    bit_is_set-or c.args.word c.ones_if_any-ones.result p ∙ chosen_or (bit_at c.args.word p == 1) _ b (c.ones_if_any-ones.ensures p h)
    ∙ ap (λ v. if b then v else (bit_at c.args.word p == 1)) (sym c.if-value.true)

pub returns-else-value : goal.returns-else-value
returns-else-value c = λ p h.
    let b = nat_le c.args.low p && nat_lt p c.args.high in
    bit_is_set-and c.args.word (bit_not w64 c.ones_if_any-ones.result) p
    ∙ ap (λ y. (bit_at c.args.word p == 1) && y) (bit_is_set-not c.ones_if_any-ones.result p (omega arith) h)
    ∙ chosen_and_not (bit_at c.args.word p == 1) _ b (c.ones_if_any-ones.ensures p h)
    ∙ ap (λ v. if b then v else (bit_at c.args.word p == 1)) (sym c.if-value.false)
