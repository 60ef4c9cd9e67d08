-- The copies are of what is lacked of both parts.
use Rattle.std.specs.Prelude.{◌++◌}
use Rattle.replica_store.proofs.Putting.{lacked_of, OnOk_then}
use Rattle.replica_store.proofs.batches.Batches.join.Goals as goal

pub put_fresh-requires : goal.put_fresh-requires
put_fresh-requires c = (
  c.args.first.now ++ c.args.second.now,
  lacked_of c.self.inside.own c.self.inside.up_to.items c.self.inside.past.items c.self.inside.held c.args.self.now c.self.invariant c.self.view_is (c.args.first.now ++ c.args.second.now) c.in_ok-fresh.fresh.items c.requires.sorted c.in_ok-fresh.ensures,
  c.requires.names,
)

pub returns-clause-ok : goal.returns-clause-ok
returns-clause-ok c = OnOk_then c.put_fresh.result (λ then. then (c.args.first.now ++ c.args.second.now) (lacked_of c.self.inside.own c.self.inside.up_to.items c.self.inside.past.items c.self.inside.held c.args.self.now c.self.invariant c.self.view_is (c.args.first.now ++ c.args.second.now) c.in_ok-fresh.fresh.items c.requires.sorted c.in_ok-fresh.ensures)) c.put_fresh.ensures.ok
