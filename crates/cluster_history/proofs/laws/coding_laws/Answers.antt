use Rattle.cluster_history.proofs.CodingLaws.{codings}
use Rattle.cluster_history.proofs.laws.coding_laws.Goals as goal

pub returns : goal.returns
returns c = codings
