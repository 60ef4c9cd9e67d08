-- Each byte stands above the bytes before it.
use Rattle.std.proofs.Common.{ℕ, ◌+◌, ◌*◌, ◌^◌, ◌<◌, sym, ap, subst, ◌∙◌, arith}
use Rattle.transpose_order.specs.Mask.{number_of_bits}
use Rattle.transpose_order.specs.MaskWords.{number_of_bits-zero, number_of_bits-below}
use Rattle.transpose_order.specs.Bytes.{bit_of_bytes}
use Rattle.transpose_order.proofs.ByteLemmas.{bit_of_bytes-below, byte_above}
use Rattle.transpose_order.proofs.bytes.number_at.Goals as goal

pub loop-i-init : goal.loop-i-init
loop-i-init c = sym (number_of_bits-zero (λ p. bit_of_bytes c.args.bytes.now (8 * c.args.at + p)))

pub loop-i-preserved : goal.loop-i-preserved
loop-i-preserved c =
    byte_above c.args.bytes.now c.args.at c.loop-i.i c.loop-i.number c.from.result (omega arith) c.from.ensures (omega arith) c.loop-i.invariant

pub returns-clause-value : goal.returns-clause-value
returns-clause-value c =
    c.loop-i.invariant ∙ ap (λ n. number_of_bits (8 * n) (λ p. bit_of_bytes c.args.bytes.now (8 * c.args.at + p))) (omega arith)

pub returns-clause-fits : goal.returns-clause-fits
returns-clause-fits c =
    subst (λ (n : ℕ). n < 2 ^ (8 * c.args.count)) (sym (returns-clause-value c))
    (number_of_bits-below (8 * c.args.count) (λ p. bit_of_bytes c.args.bytes.now (8 * c.args.at + p)) (λ p _. bit_of_bytes-below c.args.bytes.now (8 * c.args.at + p)))
