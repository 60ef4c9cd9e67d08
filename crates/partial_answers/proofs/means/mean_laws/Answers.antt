use Rattle.partial_answers.proofs.DivideFirst.{mean_first}
use Rattle.partial_answers.proofs.means.mean_laws.Goals as goal

pub returns : goal.returns
returns c = mean_first
