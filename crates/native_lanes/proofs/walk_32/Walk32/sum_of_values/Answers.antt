-- Each number is a value and half of 2 ^ 32.
use Rattle.std.proofs.Common.{◌^◌, ◌≤◌, arith}
use Rattle.std.proofs.lemmas.Int.{ints}
use Rattle.transpose_order.specs.Mask.{has}
use Rattle.transpose_order.proofs.MaskLemmas.{count_below-le}
use Rattle.native_lanes.specs.Walks.{number_of_row}
use Rattle.native_lanes.proofs.RaisedLemmas.{raised_numbers}
use Rattle.native_lanes.proofs.walk_32.Walk32.sum_of_values.Goals as goal

pub returns : goal.returns
returns c = λ value raised.
    let whole = raised_numbers (2 ^ 31) (has c.args.rows.now) (number_of_row c.args.self.now) value 1024 raised in
    let few : c.count_below.result ≤ 1024 = omega (arith, c.count_below.ensures, count_below-le (has c.args.rows.now) 1024) in
    omega (arith, ints, whole, c.sum.ensures.sum, c.sum.ensures.bound, c.count_below.ensures, few)
