use Rattle.partial_answers.proofs.GroupShapes.{same_kinds}
use Rattle.partial_answers.proofs.TakenPartialAnswers.{same_told}
use Rattle.partial_answers.proofs.told.of_groups.Goals as goal

pub returns-clause-value : goal.returns-clause-value
returns-clause-value c = same_told c.in_ok-made.made _ _ _ _ c.in_ok-entries.ensures.places c.as_slice.ensures.value c.in_ok-made.ensures.value

pub returns-clause-kinds : goal.returns-clause-kinds
returns-clause-kinds c = λ kinds. same_kinds kinds c.in_ok-made.made _ _ _ _ c.in_ok-entries.ensures.places c.as_slice.ensures.value (c.in_ok-made.ensures.kinds kinds)
