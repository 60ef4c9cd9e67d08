use Rattle.folder_commands.proofs.Answering.{answered_laws_hold}
use Rattle.folder_commands.proofs.laws.answered_laws.Goals as goal

pub returns : goal.returns
returns c = answered_laws_hold
