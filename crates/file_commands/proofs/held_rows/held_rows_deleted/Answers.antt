-- The rows are deleted in what the file holds if that has their batch.
use Rattle.std.proofs.Common.{sym, ◌∙◌}
use Rattle.std.proofs.lemmas.Result.{err_from_is_err_and}
use Rattle.replica_store.specs.Replica.{Replica}
use Rattle.file_commands.specs.HeldDeletes.{deleted_if_held}
use Rattle.file_commands.specs.declared.held_rows.HeldRows.{HeldRows}
use Rattle.file_commands.proofs.HeldDeletes.{absent_rewrites, delete_refused, held_rewrites}
use Rattle.file_commands.proofs.Rewrites.{file_refused, held_refused, rewrites_changes}
use Rattle.file_commands.proofs.held_rows.held_rows_deleted.Goals as goal

pub returns-in_err-store : goal.returns-in_err-store
returns-in_err-store c =
    let p = err_from_is_err_and c.from_residual.result c.from_residual.ensures.1 in
    rw (p.1, p.2) (file_refused (λ (r : Replica). deleted_if_held r c.args.first c.args.last) c.args.file.items c.in_err-store.field-0.0 c.in_err-store.ensures)

pub returns-in_err-deleted : goal.returns-in_err-deleted
returns-in_err-deleted c =
    let p = err_from_is_err_and c.from_residual-in_err-deleted.result c.from_residual-in_err-deleted.ensures.1 in
    rw (p.1, p.2) (held_refused (λ (d : HeldRows). d.is_held) (λ (d : HeldRows). d.is_changed) (λ (r : Replica). deleted_if_held r c.args.first c.args.last) c.args.file.items c.in_ok-store.store.replica c.in_err-deleted.field-0.0 c.in_ok-store.ensures
    (delete_refused c.args.first c.args.last c.in_ok-store.store.replica c.in_err-deleted.field-0.0 c.in_err-deleted.ensures))

pub returns-then-is_held : goal.returns-then-is_held
returns-then-is_held c =
    rewrites_changes (λ (d : HeldRows). d.is_held) (λ (d : HeldRows). d.is_changed) (λ (r : Replica). deleted_if_held r c.args.first c.args.last) c.args.file.items c.in_ok-store.store.replica _ _ c.in_ok-store.ensures
    (held_rewrites c.args.first c.args.last c.in_ok-store.store.replica c.in_ok-deleted.deleted c.in_ok-deleted.new.items c.in_ok-deleted.ensures c.is_changed.result c.is_changed.ensures (sym c.if-is_held.true ∙ c.holds-is_held.ensures))

pub returns-else-is_held : goal.returns-else-is_held
returns-else-is_held c =
    rewrites_changes (λ (d : HeldRows). d.is_held) (λ (d : HeldRows). d.is_changed) (λ (r : Replica). deleted_if_held r c.args.first c.args.last) c.args.file.items c.in_ok-store.store.replica _ _ c.in_ok-store.ensures
    (absent_rewrites c.args.first c.args.last c.in_ok-store.store.replica c.in_ok-deleted.deleted c.in_ok-deleted.new.items c.in_ok-deleted.ensures c.new.result.items c.new.ensures.items (sym c.if-is_held.false ∙ c.holds-is_held.ensures))
