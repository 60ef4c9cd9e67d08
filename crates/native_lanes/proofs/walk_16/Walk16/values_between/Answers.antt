-- A value is in the range where its number is.
use Rattle.std.proofs.Common.{◌*◌, ◌^◌, ◌<◌, ◌&&◌, nat_le, ◌∙◌, arith}
use Rattle.transpose_order.specs.MaskWords.{rows_of-like}
use Rattle.native_lanes.specs.Between.{between}
use Rattle.native_lanes.specs.Walks.{number_of_row}
use Rattle.native_lanes.proofs.PackedLemmas.{passed_between}
use Rattle.native_lanes.proofs.walk_16.Walk16.values_between.Goals as goal

pub returns : goal.returns
returns c = λ value raised.
    let walk = c.args.self.now in
    c.rows_between.ensures.rows
    ∙ rows_of-like (λ n. nat_le c.raised_range-first.result.0 (number_of_row walk n) && nat_le (number_of_row walk n) c.raised_range-first.result.1) (λ n. between c.args.low c.args.high (value n))
    (λ n h.
    let fits : number_of_row walk n < 2 * 2 ^ 15 = omega (arith, c.rows_between.ensures.below n) in
    c.raised_range-first.ensures.range (number_of_row walk n) (value n) fits (raised n h) ∙ passed_between c.args.low c.args.high (value n) c.ranges.low c.ranges.high)
