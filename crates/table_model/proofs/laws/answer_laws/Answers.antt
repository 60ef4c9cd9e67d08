-- The same keys occur in any order, and a set function doesn't see it.
use Rattle.table_model.proofs.AnswerOrder.{answers}
use Rattle.table_model.proofs.laws.answer_laws.Goals as goal

pub returns : goal.returns
returns c = answers
