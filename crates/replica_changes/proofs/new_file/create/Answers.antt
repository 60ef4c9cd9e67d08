-- A new store is that of an empty state, whose file is written.
use Rattle.std.proofs.Common.{ap}
use Rattle.std.proofs.lemmas.Result.{err_from_is_err_and}
use Rattle.table_model.specs.Table.{Table}
use Rattle.replica_changes.specs.Commands.{file_of}
use Rattle.replica_changes.proofs.CommandSteps.{create_refused, create_lacks, create_written, new_is_empty, new_lacks, export_counts}
use Rattle.replica_changes.specs.Refusals.{is_refusal_of_create}
use Rattle.replica_changes.proofs.RefusedOnFile.{create_listed, export_listed}
use Rattle.replica_changes.proofs.new_file.create.Goals as goal

pub returns-in_err-schema-clause-made : goal.returns-in_err-schema-clause-made
returns-in_err-schema-clause-made g c =
    let p = err_from_is_err_and c.from_residual.result c.from_residual.ensures.1 in
    rw (p.1, p.2) (create_refused (λ (t : Table). t) c.in_err-schema.field-0.0 (g.W.Write.contents c.args.writer.now.0) _ c.in_err-schema.ensures)

pub returns-in_err-store-clause-made : goal.returns-in_err-store-clause-made
returns-in_err-store-clause-made g c =
    let p = err_from_is_err_and c.from_residual-in_err-store.result c.from_residual-in_err-store.ensures.1 in
    rw (p.1, p.2) (create_lacks c.in_err-store.field-0.0 (g.W.Write.contents c.args.writer.now.0) _ (new_lacks c.in_ok-schema.schema c.in_err-store.field-0.0 c.in_err-store.ensures.value))

pub returns-clause-made : goal.returns-clause-made
returns-clause-made g c =
    create_written c.export.result (g.W.Write.contents c.args.writer.now.0) (g.W.Write.contents c.export.new.writer.0) c.args.writer.now.1 c.export.new.writer.1 _ c.in_ok-schema.schema (file_of c.in_ok-store.store.replica)
    c.in_ok-schema.ensures (new_is_empty c.in_ok-schema.schema c.in_ok-store.store.replica c.in_ok-store.ensures.value) c.export.ensures.written

pub returns-clause-fault : goal.returns-clause-fault
returns-clause-fault g c =
    export_counts c.export.result (g.W.Write.contents c.args.writer.now.0) (g.W.Write.contents c.export.new.writer.0) c.args.writer.now.1 c.export.new.writer.1 (file_of c.in_ok-store.store.replica) c.export.ensures.written

pub returns-in_err-schema-clause-refused : goal.returns-in_err-schema-clause-refused
returns-in_err-schema-clause-refused g c =
    let p = err_from_is_err_and c.from_residual.result c.from_residual.ensures.1 in
    rw (p.1, p.2) (create_listed (λ (t : Table). t) c.in_err-schema.field-0.0 c.args.table.now _ c.in_err-schema.ensures)

pub returns-in_err-store-clause-refused : goal.returns-in_err-store-clause-refused
returns-in_err-store-clause-refused g c =
    let p = err_from_is_err_and c.from_residual-in_err-store.result c.from_residual-in_err-store.ensures.1 in
    rw (p.1, p.2) (ap is_refusal_of_create (new_lacks c.in_ok-schema.schema c.in_err-store.field-0.0 c.in_err-store.ensures.value))

pub returns-clause-refused : goal.returns-clause-refused
returns-clause-refused g c =
    export_listed c.export.result (g.W.Write.contents c.args.writer.now.0) (g.W.Write.contents c.export.new.writer.0) c.args.writer.now.1 c.export.new.writer.1 (file_of c.in_ok-store.store.replica) c.export.ensures.written
