-- No two of no values are the same.
use Rattle.query_eval.proofs.ValueLists.{apart_none}
use Rattle.query_eval.proofs.tallies.seen.Seen.new.Goals as goal

pub invariant_of-result : goal.invariant_of-result
invariant_of-result c = (apart_none c.new.result.items c.new.ensures.items, tt)
