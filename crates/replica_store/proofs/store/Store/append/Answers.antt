-- The name that was decided on is free.
use Rattle.std.proofs.Common.{sym}
use Rattle.replica_store.proofs.Limits.{IsFree-next_name}
use Rattle.replica_store.proofs.store.Store.append.Goals as goal

pub add-requires-clause-new : goal.add-requires-clause-new
add-requires-clause-new c = let free = IsFree-next_name c.args.self.now.replica c.args.rows.now c.in_ok-name.name (sym c.in_ok-name.ensures.value) in free.new

pub add-requires-clause-room : goal.add-requires-clause-room
add-requires-clause-room c = let free = IsFree-next_name c.args.self.now.replica c.args.rows.now c.in_ok-name.name (sym c.in_ok-name.ensures.value) in free.room

pub add-requires-clause-fit : goal.add-requires-clause-fit
add-requires-clause-fit c = let free = IsFree-next_name c.args.self.now.replica c.args.rows.now c.in_ok-name.name (sym c.in_ok-name.ensures.value) in free.fit

pub add-requires-clause-proper : goal.add-requires-clause-proper
add-requires-clause-proper c = c.in_ok-name.ensures.proper
