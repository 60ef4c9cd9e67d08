-- Row by row.
use Rattle.std.proofs.Common.{◌∙◌}
use Rattle.query_eval.proofs.PairLemmas.{having_true, having_false, having_unknown, having_as}
use Rattle.query_eval.proofs.filter.pair.Pair.having.Goals as goal

pub returns-in-True : goal.returns-in-True
returns-in-True c = λ t p. having_as _ _ t _ _ c.in-True.is (c.and.ensures ∙ having_true c.args.self.now _ t p)

pub returns-in-False : goal.returns-in-False
returns-in-False c = λ t p. having_as _ _ t _ _ c.in-False.is (c.and-in-False.ensures ∙ having_false c.args.self.now _ t p)

pub returns-in-Unknown : goal.returns-in-Unknown
returns-in-Unknown c = λ t p. having_as _ _ t _ _ c.in-Unknown.is (c.and_not.ensures ∙ having_unknown c.args.self.now _ _ t c.or.ensures p)
