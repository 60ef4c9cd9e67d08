-- A shift by at most 64 keeps every bit in 128.
use Rattle.std.proofs.Common.{◌≡◌, ◌*◌, ◌%◌, ◌^◌, ◌≤◌, arith}
use Rattle.std.proofs.lemmas.Int.{ints}
use Rattle.std.proofs.Math.Pow.{pow_mono}
use Rattle.fused_kernels.proofs.bounds.power_of_two.Goals as goal

pub returns-clause-most : goal.returns-clause-most
returns-clause-most c =
    let most : 2 ^ c.args.exponent ≤ 2 ^ 64 = pow_mono c.requires in
    let shifted : 1 * 2 ^ c.args.exponent % 2 ^ 128 ≡ 2 ^ c.args.exponent = omega (arith, most) in
    omega (arith, ints, most, shifted)
