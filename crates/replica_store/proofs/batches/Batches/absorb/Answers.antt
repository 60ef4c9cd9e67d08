-- What is kept is what is lacked.
use Rattle.replica_store.proofs.Putting.{lacked_of, OnOk_then}
use Rattle.replica_store.proofs.batches.Batches.absorb.Goals as goal

pub put_fresh-requires : goal.put_fresh-requires
put_fresh-requires c = (
  c.args.others.items,
  lacked_of c.self.inside.own c.self.inside.up_to.items c.self.inside.past.items c.self.inside.held c.args.self.now c.self.invariant c.self.view_is c.args.others.items c.keep_lacked.new.batches.items c.requires.sorted c.keep_lacked.ensures,
  c.requires.names,
)

pub returns-clause-ok : goal.returns-clause-ok
returns-clause-ok c = OnOk_then c.put_fresh.result (λ then. then c.args.others.items (lacked_of c.self.inside.own c.self.inside.up_to.items c.self.inside.past.items c.self.inside.held c.args.self.now c.self.invariant c.self.view_is c.args.others.items c.keep_lacked.new.batches.items c.requires.sorted c.keep_lacked.ensures)) c.put_fresh.ensures.ok
