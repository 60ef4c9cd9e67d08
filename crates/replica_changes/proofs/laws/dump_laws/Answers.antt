-- The laws are those of the lines of live rows, and of batches under consecutive names.
use Rattle.replica_changes.proofs.DumpRows.{dump_laws_hold}
use Rattle.replica_changes.proofs.laws.dump_laws.Goals as goal

pub returns : goal.returns
returns c = dump_laws_hold
