use Rattle.partial_commands.proofs.Trees.{partial_command_laws}
use Rattle.partial_commands.proofs.laws.partial_command_laws.Goals as goal

pub returns : goal.returns
returns c = partial_command_laws
