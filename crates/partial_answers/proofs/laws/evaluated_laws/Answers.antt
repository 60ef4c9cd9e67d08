use Rattle.partial_answers.proofs.Evaluated.{evaluated}
use Rattle.partial_answers.proofs.laws.evaluated_laws.Goals as goal

pub returns : goal.returns
returns c = evaluated
