-- What partial answers keep adds up.
use Rattle.partial_answers.proofs.Whole.{laws}
use Rattle.partial_answers.proofs.laws.partial_answer_laws.Goals as goal

pub returns : goal.returns
returns c = laws
