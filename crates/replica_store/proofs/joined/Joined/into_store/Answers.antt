-- Two that are joined merge.
use Rattle.std.proofs.Common.{refl}
use Rattle.replica_store.proofs.JoinedStores.{parts_merge}
use Rattle.replica_store.proofs.joined.Joined.into_store.Goals as goal

pub join-requires : goal.join-requires
join-requires c = rw (parts_merge c.self.inside.base c.self.inside.recent c.self.invariant) refl
