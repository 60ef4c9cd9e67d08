-- One truth value at each row.
use Rattle.query_eval.proofs.PairLemmas.{all_true, all_false, all_unknown, everywhere_as}
use Rattle.query_eval.proofs.filter.pair.Pair.everywhere.Goals as goal

pub returns-in-True : goal.returns-in-True
returns-in-True c = everywhere_as _ _ _ _ c.in-True.is (all_true _ _ c.and.ensures c.none.ensures)

pub returns-in-False : goal.returns-in-False
returns-in-False c = everywhere_as _ _ _ _ c.in-False.is (all_false _ _ c.none-in-False.ensures c.and-in-False.ensures)

pub returns-in-Unknown : goal.returns-in-Unknown
returns-in-Unknown c = everywhere_as _ _ _ _ c.in-Unknown.is (all_unknown _ _ c.none-in-Unknown.ensures c.none-in-Unknown-2.ensures)
