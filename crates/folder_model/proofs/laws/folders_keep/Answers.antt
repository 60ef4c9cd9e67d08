use Rattle.folder_model.proofs.Keeping.{folders_keep}
use Rattle.folder_model.proofs.laws.folders_keep.Goals as goal

pub returns : goal.returns
returns c = folders_keep
