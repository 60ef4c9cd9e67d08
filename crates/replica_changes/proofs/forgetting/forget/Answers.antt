-- The file is read, the command acts on its replica, and the file is written anew where that changed.
use Rattle.std.proofs.Common.{not, ◌==◌, refl, arith}
use Rattle.std.proofs.lemmas.Result.{err_from_is_err_and}
use Rattle.replica_store.specs.Segments.{StoreForm}
use Rattle.replica_changes.specs.Forgetting.{forgetting}
use Rattle.replica_changes.specs.Refusals.{is_refusal_of_forget}
use Rattle.replica_store.specs.declared.forgotten.Forgotten.{Forgotten}
use Rattle.replica_changes.proofs.CommandSteps.{opening_changes, command_changes, unwritten_changes, written_changes}
use Rattle.replica_changes.proofs.RefusedOnFile.{opening_ends, command_ends, writing_ends}
use Rattle.replica_changes.proofs.forgetting.forget.Goals as goal

pub returns-in_err-store-clause-made : goal.returns-in_err-store-clause-made
returns-in_err-store-clause-made g c =
    let p = err_from_is_err_and c.from_residual.result c.from_residual.ensures.1 in
    rw (p.1, p.2) (opening_changes {X = Forgotten} (λ (store : StoreForm). store.replica) (λ (d : Forgotten). (d.batches, d.rows)) (λ (d : Forgotten). not (d.batches == 0)) c.in_err-store.field-0.0 (g.R.Read.remaining c.args.reader.now.0) (g.W.Write.contents c.args.writer.now.0) forgetting c.in_err-store.ensures.read)

pub returns-in_err-done-clause-made : goal.returns-in_err-done-clause-made
returns-in_err-done-clause-made g c =
    let p = err_from_is_err_and c.from_residual-in_err-done.result c.from_residual-in_err-done.ensures.1 in
    rw (p.1, p.2) (command_changes {X = Forgotten} (λ (store : StoreForm). store.replica) c.in_ok-store.store (λ (d : Forgotten). (d.batches, d.rows)) (λ (d : Forgotten). not (d.batches == 0)) c.in_err-done.field-0.0 (g.R.Read.remaining c.args.reader.now.0) (g.W.Write.contents c.args.writer.now.0) c.forget_dead.new.store.replica forgetting c.in_ok-store.ensures.read c.in_err-done.ensures.makes)

pub returns-in_err-write_changed-clause-made : goal.returns-in_err-write_changed-clause-made
returns-in_err-write_changed-clause-made g c =
    let p = err_from_is_err_and c.from_residual-in_err-write_changed.result c.from_residual-in_err-write_changed.ensures.1 in
    rw (p.1, p.2) (unwritten_changes (λ (store : StoreForm). store.replica) c.in_ok-store.store (λ (d : Forgotten). (d.batches, d.rows)) (λ (d : Forgotten). not (d.batches == 0)) c.in_ok-done.done _ c.in_err-write_changed.field-0.0 (g.R.Read.remaining c.args.reader.now.0) (g.W.Write.contents c.args.writer.now.0) (g.W.Write.contents c.write_changed.new.writer.0) c.forget_dead.new.store.replica forgetting c.in_ok-store.ensures.read c.in_ok-done.ensures.makes c.in_err-write_changed.ensures.put)

pub returns-clause-made : goal.returns-clause-made
returns-clause-made g c =
    written_changes (λ (store : StoreForm). store.replica) c.in_ok-store.store (λ (d : Forgotten). (d.batches, d.rows)) (λ (d : Forgotten). not (d.batches == 0)) c.in_ok-done.done _ (g.R.Read.remaining c.args.reader.now.0) (g.W.Write.contents c.args.writer.now.0) (g.W.Write.contents c.write_changed.new.writer.0) c.forget_dead.new.store.replica forgetting
    refl c.in_ok-store.ensures.read c.in_ok-done.ensures.makes c.in_ok-write_changed.ensures.put

pub returns-in_err-store-clause-ends : goal.returns-in_err-store-clause-ends
returns-in_err-store-clause-ends g c =
    let p = err_from_is_err_and c.from_residual.result c.from_residual.ensures.1 in
    rw (p.1, p.2) (opening_ends g.R.Read.remaining g.W.Write.contents is_refusal_of_forget forgetting c.args.reader.now c.open.new.reader c.args.writer.now c.in_err-store.field-0.0 (c.in_err-store.ensures.reads (omega arith)))

pub returns-in_err-done-clause-ends : goal.returns-in_err-done-clause-ends
returns-in_err-done-clause-ends g c =
    let p = err_from_is_err_and c.from_residual-in_err-done.result c.from_residual-in_err-done.ensures.1 in
    rw (p.1, p.2) (command_ends g.R.Read.remaining g.W.Write.contents is_refusal_of_forget forgetting c.args.reader.now c.open.new.reader c.args.writer.now (λ (store : StoreForm). store.replica) c.in_ok-store.store (λ (d : Forgotten). (d.batches, d.rows)) (λ (d : Forgotten). not (d.batches == 0)) c.forget_dead.new.store.replica c.in_err-done.field-0.0
    refl refl c.in_ok-store.ensures.read (c.in_ok-store.ensures.reads (omega arith)) c.in_err-done.ensures.makes c.in_err-done.ensures.refused)

pub returns-in_err-write_changed-clause-ends : goal.returns-in_err-write_changed-clause-ends
returns-in_err-write_changed-clause-ends g c =
    let p = err_from_is_err_and c.from_residual-in_err-write_changed.result c.from_residual-in_err-write_changed.ensures.1 in
    rw (p.1, p.2) (writing_ends g.R.Read.remaining g.W.Write.contents is_refusal_of_forget forgetting c.args.reader.now c.open.new.reader c.args.writer.now c.write_changed.new.writer _ c.forget_dead.new.store.replica c.in_err-write_changed.field-0.0
    (c.in_ok-store.ensures.reads (omega arith)) c.in_err-write_changed.ensures.put c.in_err-write_changed.ensures.fault)

pub returns-clause-ends : goal.returns-clause-ends
returns-clause-ends g c = record { read = c.in_ok-store.ensures.reads (omega arith); kept = c.in_ok-write_changed.ensures.kept }
