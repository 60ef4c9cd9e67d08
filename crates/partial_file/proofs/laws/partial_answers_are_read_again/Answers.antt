use Rattle.partial_file.proofs.PartialAnswersRead.{partial_answers_are_read_again}
use Rattle.partial_file.proofs.laws.partial_answers_are_read_again.Goals as goal

pub returns : goal.returns
returns c = partial_answers_are_read_again
