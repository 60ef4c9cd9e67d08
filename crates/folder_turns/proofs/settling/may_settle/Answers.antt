use Rattle.std.proofs.Common.{sym, ◌∙◌, arith}
use Rattle.folder_turns.proofs.Runs.{can_more}
use Rattle.folder_turns.proofs.Straying.{settled_not}
use Rattle.folder_turns.proofs.settling.may_settle.Goals as goal

pub loop-at-preserved : goal.loop-at-preserved
loop-at-preserved c = record {
  within = let below = c.loop-at-test.true in omega (arith, below);
  below = let there = c.in-Some.ensures.lookup.3.0 in omega (arith, there);
  can = λ whole before can. can_more whole c.args.told.now before c.loop-at.at c.in-Some.call.now c.in-Some.ensures.lookup.3.0 (sym c.in-Some.ensures.lookup.1)
      (sym c.fails_to_settle.ensures ∙ c.if-fails_to_settle.false) (c.loop-at.invariant.can whole before can);
}

pub returns-then-fails_to_settle-clause-not : goal.returns-then-fails_to_settle-clause-not
returns-then-fails_to_settle-clause-not c = λ _ whole before.
    settled_not whole c.args.told.now before c.args.count c.loop-at.at c.in-Some.call.now c.in-Some.ensures.lookup.3.0 c.loop-at-test.true (sym c.in-Some.ensures.lookup.1)
    (sym c.fails_to_settle.ensures ∙ c.if-fails_to_settle.true)
