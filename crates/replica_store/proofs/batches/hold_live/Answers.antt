-- Each name is taken over from what is left to the names so far, where its batch has a live row.
use Rattle.std.proofs.Common.{◌∙◌}
use Rattle.replica_store.proofs.Forgetting.{named_live}
use Rattle.replica_store.proofs.batches.hold_live.Goals as goal

pub loop-entry-preserved : goal.loop-entry-preserved
loop-entry-preserved c = λ q.
    named_live c.args.deleted.now c.args.entries.now c.loop-entry.entry-index c.entry-item.result c.loop-entry.held c.hold_if_live.new.held c.loop-entry-test.true c.entry-item.is c.in_ok-hold_if_live.ensures q
    ∙ c.loop-entry.invariant q
