-- One part more.
use Rattle.std.proofs.Common.{sym}
use Rattle.query_parser.proofs.Visits.{places-none, places_more, terms_more, factors_more}
use Rattle.query_parser.proofs.names.+mentions.Goals as goal

pub in_condition-loop-term-init : goal.in_condition-loop-term-init
in_condition-loop-term-init t c = sym (places-none _ _ _)

pub in_condition-loop-term-preserved : goal.in_condition-loop-term-preserved
in_condition-loop-term-preserved t c =
    places_more _ _ _ _ _ _ _ _ (terms_more c.args.bound c.deref-term-items.result.now c.loop-term.term-index c.term-item.result c.loop-term-test.true c.term-item.is) c.loop-term.invariant c.in_term-found.ensures

pub in_term-loop-factor-init : goal.in_term-loop-factor-init
in_term-loop-factor-init t c = sym (places-none _ _ _)

pub in_term-loop-factor-preserved : goal.in_term-loop-factor-preserved
in_term-loop-factor-preserved t c =
    places_more _ _ _ _ _ _ _ _ (factors_more c.args.bound c.deref-factor-items.result.now c.loop-factor.factor-index c.factor-item.result c.loop-factor-test.true c.factor-item.is) c.loop-factor.invariant c.in_factor-found.ensures
