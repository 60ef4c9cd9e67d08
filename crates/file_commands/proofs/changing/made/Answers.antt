-- What the command makes of the store is written.
use Rattle.std.proofs.Common.{inr}
use Rattle.std.proofs.lemmas.Result.{err_from_is_err_and}
use Rattle.replica_changes.specs.CommandForms.{adding, answer_of, command_of, has_changed}
use Rattle.file_commands.proofs.Rewrites.{made_rewrites}
use Rattle.file_commands.proofs.changing.made.Goals as goal

pub returns-in_err-answer : goal.returns-in_err-answer
returns-in_err-answer c =
    let p = err_from_is_err_and c.from_residual.result c.from_residual.ensures.1 in
    rw (p.1, p.2) c.in_err-answer.ensures.made

pub returns-in_err-new : goal.returns-in_err-new
returns-in_err-new c =
    let p = err_from_is_err_and c.from_residual-in_err-new.result c.from_residual-in_err-new.ensures.1 in
    rw (p.1, p.2) (inr c.in_err-new.ensures)

pub returns : goal.returns
returns c =
    made_rewrites answer_of has_changed (adding (command_of c.args.command)) c.args.held.replica c.in_ok-answer.store.replica c.in_ok-answer.answer c.is_changed.result c.in_ok-new.new.items
    c.in_ok-answer.ensures.made c.is_changed.ensures c.in_ok-new.ensures
