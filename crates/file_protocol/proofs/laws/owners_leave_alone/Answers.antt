use Rattle.file_protocol.proofs.Processes.{owner_laws}
use Rattle.file_protocol.proofs.laws.owners_leave_alone.Goals as goal

pub returns : goal.returns
returns c = owner_laws
