use Rattle.column_file.proofs.SkimmedAsRead.{files_are_skimmed}
use Rattle.column_file.proofs.laws.files_are_skimmed.Goals as goal

pub returns : goal.returns
returns c = files_are_skimmed
