-- Row by row.
use Rattle.query_eval.proofs.PairLemmas.{pair_or, pair_or_rest}
use Rattle.query_eval.proofs.filter.pair.Pair.or.Goals as goal

pub returns-clause-rest : goal.returns-clause-rest
returns-clause-rest c = pair_or_rest c.args.self.now c.args.other.now _ c.or.ensures c.and.ensures

pub returns-clause-alike : goal.returns-clause-alike
returns-clause-alike c = pair_or c.args.self.now c.args.other.now _ c.or.ensures c.and.ensures
