-- What is left of the store is written where a batch was dropped.
use Rattle.std.proofs.Common.{refl, not, ◌==◌, ℕ, Bool}
use Rattle.std.proofs.lemmas.Result.{err_from_is_err_and}
use Rattle.replica_changes.specs.Forgetting.{forgetting}
use Rattle.replica_store.specs.declared.forgotten.Forgotten.{Forgotten}
use Rattle.folder_parts.proofs.ForgottenFolders.{forget_appends}
use Rattle.folder_parts.proofs.Puts.{puts_refused, puts_unwritten, puts_written}
use Rattle.folder_parts.proofs.forgetting.part_of_forget.Goals as goal

abbrev told : Forgotten → ℕ × ℕ
told d = (d.batches, d.rows)

abbrev is_some : Forgotten → Bool
is_some d = not (d.batches == 0)

pub returns-in_err-done-clause-made : goal.returns-in_err-done-clause-made
returns-in_err-done-clause-made g c =
    let p = err_from_is_err_and c.from_residual.result c.from_residual.ensures.1 in
    rw (p.1, p.2) (puts_refused {X = Forgotten} told is_some c.in_err-done.field-0.0 (g.W.Write.contents c.args.writer.now.0) (forgetting c.args.held.now.replica) c.in_err-done.ensures.makes)

pub returns-in_err-write_changed-clause-made : goal.returns-in_err-write_changed-clause-made
returns-in_err-write_changed-clause-made g c =
    let p = err_from_is_err_and c.from_residual-in_err-write_changed.result c.from_residual-in_err-write_changed.ensures.1 in
    rw (p.1, p.2) (puts_unwritten told is_some (told c.in_ok-done.done) _ c.in_err-write_changed.field-0.0 (g.W.Write.contents c.args.writer.now.0) (g.W.Write.contents c.write_changed.new.writer.0) c.forget_dead.new.store.replica (forgetting c.args.held.now.replica) c.in_ok-done.ensures.makes.0 c.in_err-write_changed.ensures.put)

pub returns-clause-made : goal.returns-clause-made
returns-clause-made g c =
    puts_written told is_some c.in_ok-done.done _ (g.W.Write.contents c.args.writer.now.0) (g.W.Write.contents c.write_changed.new.writer.0) c.forget_dead.new.store.replica c.in_ok-write_changed.field-0 (forgetting c.args.held.now.replica) refl c.in_ok-done.ensures.makes.0 c.in_ok-write_changed.ensures.put

pub returns-clause-covers : goal.returns-clause-covers
returns-clause-covers g c = λ first others table ops sets folder made some.
    forget_appends first others table ops sets c.args.held.now.replica c.forget_dead.new.store.replica (told c.in_ok-done.done) _ (g.W.Write.contents c.args.writer.now.0) (g.W.Write.contents c.write_changed.new.writer.0) c.in_ok-write_changed.field-0
    folder made c.in_ok-done.ensures.makes.0 c.in_ok-write_changed.ensures.put some
