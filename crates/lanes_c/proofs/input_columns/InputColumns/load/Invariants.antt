-- The batches before are in the load, and no row of them has a fault.
use Rattle.lanes_c.proofs.InputLoads.{HasFirst}
use Rattle.lanes_c.proofs.input_columns.InputColumns.load.Given as goal

abbrev pub invariant-loop-index : goal.invariant-loop-index
invariant-loop-index l = HasFirst l.schema l.self l.index l.load
