-- The file opens to what the store has, so it is read as that.
use Rattle.replica_changes.proofs.CommandSteps.{opened_as}
use Rattle.folder_commands.proofs.packing.file_of.Goals as goal

pub returns-clause-read : goal.returns-clause-read
returns-clause-read c = opened_as c.args.store.replica c.in_ok-export_bytes.ensures.opens
