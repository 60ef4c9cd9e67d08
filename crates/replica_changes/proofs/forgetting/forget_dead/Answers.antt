-- What a forget of a store says is what the command tells.
use Rattle.replica_store.specs.declared.forgotten.Forgotten.{Forgotten}
use Rattle.replica_changes.proofs.ForgetCounts.{forget_makes, forget_refusals}
use Rattle.replica_changes.proofs.forgetting.forget_dead.Goals as goal

pub returns-clause-makes : goal.returns-clause-makes
returns-clause-makes c = forget_makes (λ (d : Forgotten). (d.batches, d.rows)) c.args.store.now.replica c.forget.new.self.replica c.forget.result c.forget.ensures.acts c.forget.ensures.batches c.forget.ensures.rows

pub returns-clause-refused : goal.returns-clause-refused
returns-clause-refused c = forget_refusals c.args.store.now.replica c.forget.new.self.replica c.forget.result c.forget.ensures.acts
