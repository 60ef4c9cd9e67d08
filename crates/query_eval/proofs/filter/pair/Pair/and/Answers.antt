-- Row by row.
use Rattle.query_eval.proofs.PairLemmas.{pair_and, pair_and_rest}
use Rattle.query_eval.proofs.filter.pair.Pair.and.Goals as goal

pub returns-clause-rest : goal.returns-clause-rest
returns-clause-rest c = pair_and_rest c.args.self.now c.args.other.now _ c.and.ensures c.or.ensures

pub returns-clause-alike : goal.returns-clause-alike
returns-clause-alike c = pair_and c.args.self.now c.args.other.now _ c.and.ensures c.or.ensures
