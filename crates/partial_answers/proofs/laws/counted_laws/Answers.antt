-- The names that were counted tell whether states are apart.
use Rattle.partial_answers.proofs.Names.{counted_laws}
use Rattle.partial_answers.proofs.laws.counted_laws.Goals as goal

pub returns : goal.returns
returns c = counted_laws
