-- What was brought is joined with what is held.
use Rattle.std.proofs.Common.{inr}
use Rattle.std.proofs.lemmas.Result.{err_from_is_err_and}
use Rattle.replica_changes.specs.CommandForms.{answer_of, command_of, has_changed}
use Rattle.replica_changes.proofs.JoinedChanges.{brings_makes, brought_refused, joins_memory, lack_listed}
use Rattle.replica_changes.proofs.changing.change_store.Goals as goal

pub returns-in_err-answer-clause-made : goal.returns-in_err-answer-clause-made
returns-in_err-answer-clause-made c =
    let p = err_from_is_err_and c.from_residual.result c.from_residual.ensures.1 in
    rw (p.1, p.2) (brought_refused answer_of has_changed c.in_err-answer.field-0.0 c.args.held _ _ c.in_err-answer.ensures.brings)

pub returns-in_err-answer-clause-refused : goal.returns-in_err-answer-clause-refused
returns-in_err-answer-clause-refused c =
    let p = err_from_is_err_and c.from_residual.result c.from_residual.ensures.1 in
    rw (p.1, p.2) c.in_err-answer.ensures.refused

pub returns-in_err-store-clause-made : goal.returns-in_err-store-clause-made
returns-in_err-store-clause-made c =
    let p = err_from_is_err_and c.from_residual-in_err-store.result c.from_residual-in_err-store.ensures.1 in
    rw (p.1, p.2) (inr (joins_memory answer_of has_changed c.in_ok-answer.answer c.args.held c.in_ok-answer.brought _ _ c.in_err-store.field-0.0 c.in_ok-answer.ensures.brings c.in_err-store.ensures))

pub returns-in_err-store-clause-refused : goal.returns-in_err-store-clause-refused
returns-in_err-store-clause-refused c =
    let p = err_from_is_err_and c.from_residual-in_err-store.result c.from_residual-in_err-store.ensures.1 in
    rw (p.1, p.2) (lack_listed (command_of c.args.command) c.in_err-store.field-0.0
    (joins_memory answer_of has_changed c.in_ok-answer.answer c.args.held c.in_ok-answer.brought _ _ c.in_err-store.field-0.0 c.in_ok-answer.ensures.brings c.in_err-store.ensures))

pub returns-clause-made : goal.returns-clause-made
returns-clause-made c =
    brings_makes answer_of has_changed c.args.held c.in_ok-answer.brought c.in_ok-store.store.replica c.in_ok-answer.answer _ _ c.in_ok-answer.ensures.brings c.in_ok-store.ensures
