-- The text is that of what the partial answer finishes to.
use Rattle.std.proofs.Common.{refl}
use Rattle.std.proofs.lemmas.Result.{err_from_is_err_and}
use Rattle.partial_commands.proofs.PartialAnswerTurns.{answer_is}
use Rattle.partial_commands.proofs.finishing.answer_text.Goals as goal

pub returns-clause-text : goal.returns-clause-text
returns-clause-text c = answer_is c.args.format c.args.partial c.in_ok-answer.answer c.in_ok-text.text.items c.in_ok-answer.ensures.asked c.in_ok-answer.ensures.answer c.in_ok-text.ensures

pub returns-in_err-answer-clause-refused : goal.returns-in_err-answer-clause-refused
returns-in_err-answer-clause-refused c =
    let p = err_from_is_err_and c.from_residual.result c.from_residual.ensures.1 in
    rw (p.1, p.2) c.in_err-answer.ensures.refused

pub returns-in_err-text-clause-refused : goal.returns-in_err-text-clause-refused
returns-in_err-text-clause-refused c =
    let p = err_from_is_err_and c.from_residual-in_err-text.result c.from_residual-in_err-text.ensures.1 in
    rw (p.1, p.2) refl
