-- The file opens to what the store has, so it is read as that.
use Rattle.std.proofs.Common.{ap, ◌∙◌}
use Rattle.replica_reports.specs.Held.{held_in}
use Rattle.replica_changes.proofs.CommandSteps.{opened_as}
use Rattle.lanes_c.proofs.table_reading.file_of.Goals as goal

pub returns-clause-opens : goal.returns-clause-opens
returns-clause-opens c = ap held_in c.in_ok-export_bytes.ensures.bytes ∙ opened_as c.args.store.now.replica c.in_ok-export_bytes.ensures.opens
