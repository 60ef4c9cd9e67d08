-- At most digit_limit digits, each at most 207 more than a zero.
use Rattle.std.proofs.Common.{◌<◌, ◌≤◌, ◌^◌, pos, ap, ◌∙◌, arith, lit<}
use Rattle.std.specs.Int.{w128}
use Rattle.std.proofs.Math.Nat.{pow-le-pow_right}
use Rattle.std.proofs.lemmas.Int.{ints, to_z_pos}
use Rattle.std.proofs.lemmas.List.{take_all}
use Rattle.query_parser.specs.Token.{digit_limit, value_of}
use Rattle.query_parser.proofs.number.value_of.Goals as goal

pub overflow_mul-value : goal.overflow_mul-value
overflow_mul-value c =
    let low : c.loop-digit.digit-index ≤ 29 = omega (arith, c.requires) in
    let h : 10 ^ c.loop-digit.digit-index ≤ 10 ^ 29 = pow-le-pow_right (lit< tt) low in
    omega (arith, c.loop-digit.invariant.1)

pub overflow_add-value : goal.overflow_add-value
overflow_add-value c =
    let low : c.loop-digit.digit-index ≤ 29 = omega (arith, c.requires) in
    let h : 10 ^ c.loop-digit.digit-index ≤ 10 ^ 29 = pow-le-pow_right (lit< tt) low in
    omega (arith, c.loop-digit.invariant.1, c.saturating_sub.type_inv, c.from.ensures)

pub overflow_cast-result : goal.overflow_cast-result
overflow_cast-result c =
    let low : c.loop-digit.digit-index ≤ digit_limit = omega (arith, c.requires) in
    let h : 10 ^ c.loop-digit.digit-index ≤ 10 ^ digit_limit = pow-le-pow_right (lit< tt) low in
    let small : c.loop-digit.value < 2 ^ 127 = omega (arith, c.loop-digit.invariant.1) in
    omega (arith, ints)

pub returns : goal.returns
returns c =
    let low : c.loop-digit.digit-index ≤ digit_limit = omega (arith, c.requires) in
    let h : 10 ^ c.loop-digit.digit-index ≤ 10 ^ digit_limit = pow-le-pow_right (lit< tt) low in
    let small : c.loop-digit.value < 2 ^ 127 = omega (arith, c.loop-digit.invariant.1) in
    to_z_pos w128 c.loop-digit.value small ∙ ap (λ n. pos n) (c.loop-digit.invariant.0 ∙ ap value_of (take_all _ c.args.digits.now c.loop-digit-test.false))
