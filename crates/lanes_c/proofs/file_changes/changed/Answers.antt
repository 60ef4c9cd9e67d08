-- The file is read, the command is done on what it holds, and what that makes is written if something changed.
use Rattle.std.specs.Prelude.{ℕ}
use Rattle.std.specs.Global.{Vec}
use Rattle.std.proofs.Common.{ap, ◌∙◌}
use Rattle.std.proofs.lemmas.Result.{err_from_is_err_and}
use Rattle.replica_changes.specs.CommandForms.{adding, answer_of, command_of, has_changed}
use Rattle.lanes_c.specs.Rooms.{given_by}
use Rattle.lanes_c.proofs.Givings.{held_refused, done_refused, done_unwritten, done_given}
use Rattle.lanes_c.proofs.file_changes.changed.Goals as goal

pub returns-in_err-held : goal.returns-in_err-held
returns-in_err-held c =
    let p = err_from_is_err_and c.from_residual.result c.from_residual.ensures.1 in
    rw (p.1, p.2) (held_refused c.in_err-held.field-0.0 c.args.file.now (adding (command_of c.args.command)) c.in_err-held.ensures.read)

pub returns-in_err-answer : goal.returns-in_err-answer
returns-in_err-answer c =
    let p = err_from_is_err_and c.from_residual-in_err-answer.result c.from_residual-in_err-answer.ensures.1 in
    rw (p.1, p.2) (done_refused c.in_err-answer.field-0.0 c.args.file.now c.in_ok-held.held.replica (adding (command_of c.args.command)) c.in_ok-held.ensures.read c.in_err-answer.ensures.made)

pub returns-in_err-write_changed : goal.returns-in_err-write_changed
returns-in_err-write_changed c =
    let p = err_from_is_err_and c.from_residual-in_err-write_changed.result c.from_residual-in_err-write_changed.ensures.1 in
    rw (p.1, p.2) (done_unwritten _ c.in_err-write_changed.field-0.0 _ _ _ _ c.in_err-write_changed.ensures.put)

pub returns : goal.returns
returns c =
    done_given answer_of has_changed c.in_ok-answer.answer _ (given_by c.left.result) c.args.file.now _ _ c.in_ok-held.held.replica c.in_ok-answer.store.replica (adding (command_of c.args.command))
    (ap (λ (w : Vec ℕ × ℕ). w.0.items) c.new-writer.ensures ∙ c.new.ensures.items) c.is_changed-is_changed.ensures c.in_ok-held.ensures.read c.in_ok-answer.ensures.made c.in_ok-write_changed.ensures.put c.left.ensures
