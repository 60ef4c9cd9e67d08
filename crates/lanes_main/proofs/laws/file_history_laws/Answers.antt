-- Both are the canonical file of one state.
use Rattle.lanes_main.proofs.FileHistories.{files_are_exports}
use Rattle.lanes_main.proofs.laws.file_history_laws.Goals as goal

pub returns : goal.returns
returns c = files_are_exports
