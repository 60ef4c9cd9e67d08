-- A name that the set does not have is passed.
use Rattle.std.proofs.Common.{◌≡◌, ◌+◌, ◌-◌, sym, ◌∙◌, arith}
use Rattle.std.specs.FinSet as set
use Rattle.partial_answers.proofs.SharedNames.{number_on}
use Rattle.partial_answers.proofs.apart.first_in.Goals as goal

pub loop-number-preserved : goal.loop-number-preserved
loop-number-preserved c =
    let n = c.loop-number.number in
    let last = c.args.run.last.0 in
    let count : last + 1 - n ≡ last + 1 - (n + 1) + 1 = omega (arith, c.loop-number-test.true, c.from.ensures) in
    sym (number_on (set.contains c.args.held.now) c.args.run.first.origin n (last + 1 - n) (last + 1 - (n + 1)) count (sym c.holds.ensures ∙ c.if-holds.false))
    ∙ c.loop-number.invariant
