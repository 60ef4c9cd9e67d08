-- Neither sum leaves 128 bits.
use Rattle.std.proofs.Common.{rules, ◌≡◌, ℕ, ◌^◌, ℤ, pos, ◌+ℤ◌, ◌-ℤ◌, FitsSigned, to_z, of_z, ap, ◌∙◌, arith}
use Rattle.std.specs.Int.{w64, w128}
use Rattle.std.proofs.lemmas.Int.{ints, to_z-of_z}
use Rattle.std.proofs.lemmas.Nat.{pow_pos}
use Rattle.native_lanes.specs.Frames.{top_value}
use Rattle.fused_kernels.proofs.bounds.top_of.Goals as goal

pub returns-clause-value : goal.returns-clause-value
returns-clause-value c =
    let form = c.args.form.now in
    let r : ℤ = c.from.result in
    let p : ℤ = c.power_of_two.result in
    let rf : FitsSigned w128 r = search rules in
    let pf : FitsSigned w128 p = search rules in
    let sf : FitsSigned w64 c.reference.result = search rules in
    let is : r ≡ form.reference = c.from.ensures ∙ to_z-of_z w64 c.reference.result sf ∙ c.reference.ensures.value in
    let re : to_z w128 (of_z w128 r) ≡ r = to_z-of_z w128 r rf in
    let pe : to_z w128 (of_z w128 p) ≡ p = to_z-of_z w128 p pf in
    let width : p ≡ pos (2 ^ form.width) = c.power_of_two.ensures.value ∙ ap (λ (w : ℕ). pos (2 ^ w)) c.width.ensures.value in
    let both : FitsSigned w128 (to_z w128 (of_z w128 r) +ℤ to_z w128 (of_z w128 p)) = omega (arith, ints, re, pe, sf, c.reference.ensures.value, is, c.power_of_two.ensures.most, width) in
    let be = to_z-of_z w128 (to_z w128 (of_z w128 r) +ℤ to_z w128 (of_z w128 p)) both in
    let less : FitsSigned w128 (to_z w128 (of_z w128 (to_z w128 (of_z w128 r) +ℤ to_z w128 (of_z w128 p))) -ℤ pos 1) = omega (arith, ints, be, re, pe, sf, c.reference.ensures.value, is, c.power_of_two.ensures.most, width) in
    let some = pow_pos form.width in
    let whole : (to_z w128 (of_z w128 (to_z w128 (of_z w128 r) +ℤ to_z w128 (of_z w128 p))) -ℤ pos 1) ≡ top_value form = omega (arith, ints, be, re, pe, is, width, some) in
    to_z-of_z w128 _ less ∙ whole
