-- The export's own clauses, where something changed.
use Rattle.replica_changes.proofs.CommandSteps.{export_puts, export_counts}
use Rattle.std.proofs.Common.{Bool, sym, subst}
use Rattle.replica_changes.specs.Commands.{file_of, Puts}
use Rattle.replica_changes.proofs.file_writing.write_changed.Goals as goal

pub returns-then-is_changed-clause-put : goal.returns-then-is_changed-clause-put
returns-then-is_changed-clause-put g c =
    let P : Bool → Type 0 = λ changed. Puts changed c.export.result (g.W.Write.contents c.args.writer.now.0) (g.W.Write.contents c.export.new.writer.0) c.args.store.now.replica in
    subst P (sym c.if-is_changed.true) (export_puts c.export.result (g.W.Write.contents c.args.writer.now.0) (g.W.Write.contents c.export.new.writer.0) c.args.writer.now.1 c.export.new.writer.1 c.args.store.now.replica c.export.ensures.written c.export.ensures.opens)

pub returns-then-is_changed-clause-fault : goal.returns-then-is_changed-clause-fault
returns-then-is_changed-clause-fault g c =
    export_counts c.export.result (g.W.Write.contents c.args.writer.now.0) (g.W.Write.contents c.export.new.writer.0) c.args.writer.now.1 c.export.new.writer.1 (file_of c.args.store.now.replica) c.export.ensures.written
