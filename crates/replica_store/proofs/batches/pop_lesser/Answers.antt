-- The vector whose last batch is the lesser one gives it.
use Rattle.std.proofs.Common.{rules, reverse}
use Rattle.replica_store.proofs.Merges.{merge-first}
use Rattle.replica_store.proofs.batches.pop_lesser.Goals as goal

pub returns-then-takes_first-clause-rest : goal.returns-then-takes_first-clause-rest
returns-then-takes_first-clause-rest c =
    merge-first c.args.ours.now.items c.pop.new.self.items (reverse c.args.fresh.now.items) c.pop.result c.pop.ensures.items (search rules)
