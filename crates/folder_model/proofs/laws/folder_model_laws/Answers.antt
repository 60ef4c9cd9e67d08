use Rattle.folder_model.proofs.All.{folder_model_laws}
use Rattle.folder_model.proofs.laws.folder_model_laws.Goals as goal

pub returns : goal.returns
returns c = folder_model_laws
