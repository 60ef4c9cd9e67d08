use Rattle.partial_file.proofs.PartialAnswerLaws.{partial_answer_is_lawful}
use Rattle.partial_file.proofs.laws.partial_answers_and_bytes_come_back.Goals as goal

pub returns : goal.returns
returns c = partial_answer_is_lawful
