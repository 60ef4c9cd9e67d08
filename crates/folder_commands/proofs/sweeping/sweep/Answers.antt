-- The names of temporaries are no parts'.
use Rattle.folder_parts.specs.Covers.{folder_parts}
use Rattle.folder_commands.proofs.Temporaries.{no_temporary}
use Rattle.folder_commands.proofs.sweeping.sweep.Goals as goal

pub returns-clause-in_turn : goal.returns-clause-in_turn
returns-clause-in_turn g c = c.sweep.ensures.in_turn folder_parts no_temporary
