use Rattle.partial_answers.proofs.KeptKinds.{none_keep}
use Rattle.partial_answers.proofs.told.of_whole.Goals as goal

pub returns-clause-kinds : goal.returns-clause-kinds
returns-clause-kinds c = c.in_ok-put_group.ensures.kinds _ (none_keep _ c.new-made.result c.new-made.ensures.empty) c.in_ok-kept.ensures.kinds
