-- What the command brings is written.
use Rattle.std.proofs.Common.{sym}
use Rattle.std.proofs.lemmas.Result.{err_from_is_err_and}
use Rattle.replica_store.specs.Replica.{with_join}
use Rattle.replica_changes.specs.CommandForms.{adding, answer_of, brought, command_of, has_changed}
use Rattle.replica_changes.specs.declared.command.Answer.{Answer}
use Rattle.folder_parts.proofs.Puts.{brought_refused, puts_refused, puts_unwritten, puts_written}
use Rattle.folder_parts.proofs.command_part.part_of.Goals as goal

pub returns-in_err-answer-clause-puts : goal.returns-in_err-answer-clause-puts
returns-in_err-answer-clause-puts g c =
    let p = err_from_is_err_and c.from_residual.result c.from_residual.ensures.1 in
    let held = c.args.held.now in
    let command = command_of c.args.command in
    rw (p.1, p.2) (puts_refused {X = Answer} answer_of has_changed c.in_err-answer.field-0.0 (g.W.Write.contents c.args.writer.now.0) (brought command held.replica)
    (brought_refused {X = Answer} answer_of has_changed c.in_err-answer.field-0.0 held (brought command held.replica) (adding command held.replica) c.in_err-answer.ensures.brings))

pub returns-in_err-write_changed-clause-puts : goal.returns-in_err-write_changed-clause-puts
returns-in_err-write_changed-clause-puts g c =
    let p = err_from_is_err_and c.from_residual-in_err-write_changed.result c.from_residual-in_err-write_changed.ensures.1 in
    rw (p.1, p.2) (puts_unwritten answer_of has_changed (answer_of c.in_ok-answer.answer) _ c.in_err-write_changed.field-0.0 (g.W.Write.contents c.args.writer.now.0) (g.W.Write.contents c.write_changed.new.writer.0) c.in_ok-answer.part.replica
    (brought (command_of c.args.command) c.args.held.now.replica) c.in_ok-answer.ensures.brings.0 c.in_err-write_changed.ensures.put)

pub returns-clause-puts : goal.returns-clause-puts
returns-clause-puts g c =
    puts_written answer_of has_changed c.in_ok-answer.answer _ (g.W.Write.contents c.args.writer.now.0) (g.W.Write.contents c.write_changed.new.writer.0) c.in_ok-answer.part.replica c.in_ok-write_changed.field-0
    (brought (command_of c.args.command) c.args.held.now.replica) (sym c.is_changed.ensures) c.in_ok-answer.ensures.brings.0 c.in_ok-write_changed.ensures.put

pub returns-clause-tells : goal.returns-clause-tells
returns-clause-tells g c =
    let made = c.in_ok-answer.ensures.brings.1 in
    (with_join c.args.held.now.replica c.in_ok-answer.part.replica, made.joined, made.more)
