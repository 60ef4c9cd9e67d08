-- What the command brings to an empty table is written.
use Rattle.std.proofs.lemmas.Result.{err_from_is_err_and}
use Rattle.replica_changes.specs.CommandForms.{adding, answer_of, brought, command_of, has_changed}
use Rattle.replica_changes.specs.declared.command.Answer.{Answer}
use Rattle.replica_changes.proofs.CommandSteps.{new_lacks}
use Rattle.folder_parts.specs.PartsPut.{empty_replica}
use Rattle.folder_parts.proofs.Puts.{alone_puts, alone_tells, puts_lacks}
use Rattle.folder_parts.proofs.command_part.part_alone.Goals as goal

pub returns-in_err-empty-clause-puts : goal.returns-in_err-empty-clause-puts
returns-in_err-empty-clause-puts g c =
    let p = err_from_is_err_and c.from_residual.result c.from_residual.ensures.1 in
    rw (p.1, p.2) (puts_lacks {X = Answer} answer_of has_changed c.in_err-empty.field-0.0 (g.W.Write.contents c.args.writer.now.0) (brought (command_of c.args.command) (empty_replica c.args.schema.now)) (new_lacks c.args.schema.now c.in_err-empty.field-0.0 c.in_err-empty.ensures.value))

pub returns-clause-puts : goal.returns-clause-puts
returns-clause-puts g c =
    alone_puts c.part_of.result (g.W.Write.contents c.args.writer.now.0) (g.W.Write.contents c.part_of.new.writer.0) c.args.schema.now c.in_ok-empty.empty.replica (brought (command_of c.args.command)) c.in_ok-empty.ensures.value c.part_of.ensures.puts

pub returns-clause-tells : goal.returns-clause-tells
returns-clause-tells g c = alone_tells c.part_of.result c.args.schema.now c.in_ok-empty.empty.replica (adding (command_of c.args.command)) c.in_ok-empty.ensures.value c.part_of.ensures.tells
