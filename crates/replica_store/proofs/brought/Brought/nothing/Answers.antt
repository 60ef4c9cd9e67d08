-- A store without batches is brought to any one of its table.
use Rattle.replica_store.proofs.Brings.{nothing_brought}
use Rattle.replica_store.proofs.brought.Brought.nothing.Goals as goal

pub invariant_of-result : goal.invariant_of-result
invariant_of-result c = nothing_brought c.args.held.now c.in_ok-own.own c.schema.result.now c.schema.ensures c.in_ok-own.ensures.value c.keeps_its_limits.ensures.limit
