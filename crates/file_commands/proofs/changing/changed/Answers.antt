-- The file is opened, and the command acts on what it holds.
use Rattle.std.proofs.lemmas.Result.{err_from_is_err_and}
use Rattle.replica_changes.specs.CommandForms.{adding, answer_of, command_of, has_changed}
use Rattle.file_commands.proofs.Rewrites.{file_refused, made_of_file}
use Rattle.file_commands.proofs.changing.changed.Goals as goal

pub returns-in_err-held : goal.returns-in_err-held
returns-in_err-held c =
    let p = err_from_is_err_and c.from_residual.result c.from_residual.ensures.1 in
    rw (p.1, p.2) (file_refused (adding (command_of c.args.command)) c.args.file.items c.in_err-held.field-0.0 c.in_err-held.ensures)

pub returns : goal.returns
returns c =
    made_of_file answer_of has_changed (adding (command_of c.args.command)) c.args.file.items c.in_ok-held.held.replica c.made.result c.in_ok-held.ensures c.made.ensures
