use Rattle.file_commands.proofs.Homes.{home_laws}
use Rattle.file_commands.proofs.laws.files_keep.Goals as goal

pub returns : goal.returns
returns c = home_laws
