-- All ones of a width are below the next power of two.
use Rattle.std.proofs.Common.{◌≡◌, ◌-◌, ◌/◌, ◌^◌, ap, ◌∙◌, arith}
use Rattle.std.proofs.lemmas.Nat.{pow_pos}
use Rattle.std.proofs.lemmas.Nat.Bits.{ones_shr}
use Rattle.bit_interleave_tests.proofs.tests.greatest_if.Goals as goal

pub returns : goal.returns
returns c =
    let width = c.args.width in
    let same : 64 - (64 - width) ≡ width = omega arith in
    let ones : (2 ^ 64 - 1) / 2 ^ (64 - width) ≡ 2 ^ width - 1 = ones_shr 64 (64 - width) (omega arith) ∙ ap (λ k. 2 ^ k - 1) same in
    omega (arith, ones, pow_pos width)
