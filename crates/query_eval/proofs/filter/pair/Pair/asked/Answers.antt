-- The rows that have the truth value that is asked for, and the others.
use Rattle.query_eval.proofs.PairLemmas.{asked_plain, asked_negated}
use Rattle.query_eval.proofs.filter.pair.Pair.asked.Goals as goal

pub returns-then-is : goal.returns-then-is
returns-then-is c = λ t p. asked_negated c.args.mask.now _ _ c.args.is c.if-is.true c.and_not-elsewhere.ensures t (c.having-there.ensures t p)

pub returns-else-is : goal.returns-else-is
returns-else-is c = λ t p. asked_plain c.args.mask.now _ _ c.args.is c.if-is.false c.and_not-elsewhere.ensures t (c.having-there.ensures t p)
