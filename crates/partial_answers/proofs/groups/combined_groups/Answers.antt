use Rattle.std.proofs.Common.{map}
use Rattle.std.proofs.lemmas.Result.{err_from_is_err_and}
use Rattle.partial_answers.specs.Shape.{measure_kind}
use Rattle.partial_answers.proofs.BothShapes.{both_shape}
use Rattle.partial_answers.proofs.PartialAnswerIn.{combined_is}
use Rattle.partial_answers.proofs.groups.combined_groups.Goals as goal

pub returns-clause-both : goal.returns-clause-both
returns-clause-both c = combined_is _ _ _ c.in_ok-both.ensures.both

pub returns-clause-shape : goal.returns-clause-shape
returns-clause-shape c = λ plan one other. both_shape plan _ _ _ one other c.in_ok-both.ensures.both (c.in_ok-both.ensures.kinds (map measure_kind plan.aggregates) (λ k kept at. (one.groups k kept at).1) (λ k kept at. (other.groups k kept at).1))

pub returns-in_err-both-clause-refused : goal.returns-in_err-both-clause-refused
returns-in_err-both-clause-refused c =
    let p = err_from_is_err_and c.from_residual.result c.from_residual.ensures.1 in
    rw (p.1, p.2) c.in_err-both.ensures.refused
