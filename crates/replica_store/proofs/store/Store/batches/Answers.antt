-- The batches are within the limits, as always.
use Rattle.std.proofs.Common.{subst}
use Rattle.replica_store.specs.Replica.{IsWithinLimits}
use Rattle.replica_store.specs.Segments.{StoreForm}
use Rattle.replica_store.proofs.store.Store.batches.Goals as goal

pub returns-clause-within : goal.returns-clause-within
returns-clause-within c = subst (λ (s : StoreForm). IsWithinLimits s.replica.schema s.replica.state.batches) c.self.view_is c.self.invariant.sound.within
