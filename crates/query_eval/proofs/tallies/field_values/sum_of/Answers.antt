-- One value more.
use Rattle.std.proofs.Common.{arith, rules, get_or, pos, FitsSigned, w64}
use Rattle.std.proofs.lemmas.Int.{ints}
use Rattle.query_eval.proofs.ValueSteps.{total-step}
use Rattle.query_eval.proofs.tallies.field_values.sum_of.Goals as goal

pub loop-value-preserved : goal.loop-value-preserved
loop-value-preserved c =
    let i = c.loop-value.value-index in
    let xs = c.args.values.now in
    let inv = c.loop-value.invariant in
    let fits : FitsSigned w64 (get_or xs i (pos 0)) = search rules in
    let more = total-step xs i (pos 0) c.loop-value-test.true in
    record {
      value = omega (arith, ints, more, c.from-sum.ensures, inv.value, inv.within.0, inv.within.1);
      within = (omega (arith, ints, c.from-sum.ensures, inv.within.0, inv.within.1), omega (arith, ints, c.from-sum.ensures, inv.within.0, inv.within.1));
    }
