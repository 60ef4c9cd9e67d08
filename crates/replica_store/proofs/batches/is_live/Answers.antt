-- A batch has a live row where not all its rows are deleted.
use Rattle.replica_store.proofs.Forgetting.{live_is}
use Rattle.replica_store.proofs.batches.is_live.Goals as goal

pub returns : goal.returns
returns c = live_is c.args.deleted.now c.args.entry.now c.rows.result c.holds_batch.result c.rows.ensures.count c.holds_batch.ensures
