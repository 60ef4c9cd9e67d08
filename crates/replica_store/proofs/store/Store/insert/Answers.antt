-- A name that is new is free.
use Rattle.std.proofs.Common.{sym, ap, ◌∙◌, Ok}
use Rattle.replica_store.proofs.Limits.{IsFree-place_for, proper-place_for}
use Rattle.replica_store.proofs.store.Store.insert.Goals as goal

pub add-requires-clause-new : goal.add-requires-clause-new
add-requires-clause-new c =
    let free = IsFree-place_for c.args.self.now.replica c.args.name c.args.rows.now (sym c.in_ok-place_for.ensures ∙ ap Ok c.in-New.is) in free.new

pub add-requires-clause-room : goal.add-requires-clause-room
add-requires-clause-room c =
    let free = IsFree-place_for c.args.self.now.replica c.args.name c.args.rows.now (sym c.in_ok-place_for.ensures ∙ ap Ok c.in-New.is) in free.room

pub add-requires-clause-fit : goal.add-requires-clause-fit
add-requires-clause-fit c =
    let free = IsFree-place_for c.args.self.now.replica c.args.name c.args.rows.now (sym c.in_ok-place_for.ensures ∙ ap Ok c.in-New.is) in free.fit

pub add-requires-clause-proper : goal.add-requires-clause-proper
add-requires-clause-proper c = proper-place_for c.args.self.now.replica c.args.name c.args.rows.now _ (sym c.in_ok-place_for.ensures)
