-- What is left of the columns is no more than is wanted.
use Rattle.std.proofs.Common.{◌≤◌, length, ap, arith, length-take-le}
use Rattle.query_eval.proofs.grouping.key_columns.make_columns.Goals as goal

pub returns : goal.returns
returns c =
    let most : length c.truncate.new.self.items ≤ c.args.count = omega (arith, ap length c.truncate.ensures.items, length-take-le c.args.count c.args.columns.now.items) in
    omega (arith, most, c.loop.invariant, c.loop-test.false, c.loop.auto.counter-end, c.len-counter.ensures)
