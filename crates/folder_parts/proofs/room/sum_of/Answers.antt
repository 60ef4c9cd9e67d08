-- One number after another is added.
use Rattle.std.proofs.Common.{◌≤◌, arith}
use Rattle.folder_parts.proofs.SummedSoFar.{summed_none, summed_next, summed_all}
use Rattle.folder_parts.proofs.room.sum_of.Goals as goal

pub loop-index-init : goal.loop-index-init
loop-index-init c = summed_none c.args.numbers.now

pub overflow_add-total : goal.overflow_add-total
overflow_add-total c =
    let so = c.loop-index.invariant.bound in
    let one = c.type_inv.numbers c.loop-index.index in
    omega (arith, so, one, c.from-total.ensures, c.loop-index-test.true)

pub loop-index-preserved : goal.loop-index-preserved
loop-index-preserved c =
    let one = c.type_inv.numbers c.loop-index.index in
    let fit : c.from-total.result ≤ 4294967295 = omega (arith, one, c.from-total.ensures) in
    summed_next c.args.numbers.now c.loop-index.index c.loop-index.total c.from-total.result c.loop-index.invariant c.loop-index-test.true c.from-total.ensures fit

pub returns-clause-value : goal.returns-clause-value
returns-clause-value c = summed_all c.args.numbers.now c.loop-index.index c.loop-index.total c.loop-index.invariant (omega (arith, c.loop-index.auto.index-end, c.loop-index-test.false))

pub returns-clause-bound : goal.returns-clause-bound
returns-clause-bound c =
    let so = c.loop-index.invariant.bound in
    omega (arith, so, c.loop-index.auto.index-end, c.loop-index-test.false)
