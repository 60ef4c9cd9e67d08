-- Each value was raised by half of the numbers of 64 bits.
use Rattle.std.proofs.Common.{◌≤◌, arith}
use Rattle.std.proofs.lemmas.Int.{ints}
use Rattle.transpose_order.specs.Mask.{has}
use Rattle.transpose_order.proofs.MaskLemmas.{count_below-le}
use Rattle.run_dictionary.specs.Dict.{dict_value}
use Rattle.fused_kernels.proofs.SumLemmas.{raised_sum}
use Rattle.fused_kernels.proofs.codes.sum_of_codes.Goals as goal

pub returns : goal.returns
returns c =
    let whole = raised_sum (has c.args.rows.now) (dict_value c.args.form.now) 1024 in
    let few : c.count_below.result ≤ 1024 = omega (arith, c.count_below.ensures, count_below-le (has c.args.rows.now) 1024) in
    omega (arith, ints, whole, c.raised_sum_of_codes.ensures.sum, c.raised_sum_of_codes.ensures.bound, c.count_below.ensures, few)
