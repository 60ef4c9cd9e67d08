use Rattle.std.specs.Prelude.{◌≢◌, ℕ, List, [], ◌==◌, not, Ok}
use Rattle.std.proofs.Common.{ap, sym, refl, ◌∙◌, Bor}
use Rattle.std.proofs.lemmas.Result.{err_from_is_err_and}
use Rattle.replica_store.specs.Replica.{Replica}
use Rattle.file_commands.specs.HeldDeletes.{deleted_if_held}
use Rattle.file_commands.specs.declared.held_rows.HeldRows.{HeldRows}
use Rattle.file_protocol.proofs.LongerNames.{longer_is_other}
use Rattle.file_protocol.proofs.Locks.{stays_old}
use Rattle.file_commands.proofs.CrashProofs.{leaves, refused_so, any_at, answered_at, read_then_left}
use Rattle.file_commands.proofs.Whys.{unread_why, over_why, fault_why, read_then_gives}
use Rattle.file_commands.proofs.held_rows.delete_held_rows.Goals as goal

pub returns-in_err-old-clause-any_moment : goal.returns-in_err-old-clause-any_moment
returns-in_err-old-clause-any_moment g c =
    leaves (λ (r : Replica). deleted_if_held r c.args.first c.args.last) _ _ (longer_is_other _ _ _ _ c.args.place.now.longer refl refl) _ _ c.in_err-old.ensures.left

pub returns-in_err-old-clause-refused : goal.returns-in_err-old-clause-refused
returns-in_err-old-clause-refused g c =
    refused_so c.from_residual.result _ _ (stays_old _ _ (longer_is_other _ _ _ _ c.args.place.now.longer refl refl) _ _ c.in_err-old.ensures.left)

pub returns-in_err-left-in-Ok-clause-any_moment : goal.returns-in_err-left-in-Ok-clause-any_moment
returns-in_err-left-in-Ok-clause-any_moment g c =
    any_at (λ (d : HeldRows). d.is_held) (λ (d : HeldRows). d.is_changed) (λ (r : Replica). deleted_if_held r c.args.first c.args.last) _ _ (longer_is_other _ _ _ _ c.args.place.now.longer refl refl) _ _ _ c.in_ok-old.old.items c.in_ok-old.old.items c.in-Ok.new.items c.as_slice.result.now c.in_ok-old.ensures.read refl c.as_slice.ensures.value c.in-Ok.answer c.in-Ok.ensures c.finish.ensures.any_moment

pub returns-in_ok-left-in-Ok-clause-any_moment : goal.returns-in_ok-left-in-Ok-clause-any_moment
returns-in_ok-left-in-Ok-clause-any_moment g c =
    any_at (λ (d : HeldRows). d.is_held) (λ (d : HeldRows). d.is_changed) (λ (r : Replica). deleted_if_held r c.args.first c.args.last) _ _ (longer_is_other _ _ _ _ c.args.place.now.longer refl refl) _ _ _ c.in_ok-old.old.items c.in_ok-old.old.items c.in-Ok.new.items c.as_slice.result.now c.in_ok-old.ensures.read refl c.as_slice.ensures.value c.in-Ok.answer c.in-Ok.ensures c.finish.ensures.any_moment

pub returns-in_ok-left-in-Ok-clause-answered : goal.returns-in_ok-left-in-Ok-clause-answered
returns-in_ok-left-in-Ok-clause-answered g c =
    answered_at (λ (d : HeldRows). d.is_held) (λ (d : HeldRows). d.is_changed) (λ (r : Replica). deleted_if_held r c.args.first c.args.last) _ _ (longer_is_other _ _ _ _ c.args.place.now.longer refl refl) _ _ _ c.in_ok-old.old.items c.in_ok-old.old.items c.in-Ok.new.items c.as_slice.result.now c.in_ok-old.ensures.read refl c.as_slice.ensures.value c.in-Ok.answer c.in-Ok.ensures c.in_ok-left-in-Ok.left c.in_ok-left-in-Ok.ensures.finished

pub returns-in-Err-clause-any_moment : goal.returns-in-Err-clause-any_moment
returns-in-Err-clause-any_moment g c =
    leaves (λ (r : Replica). deleted_if_held r c.args.first c.args.last) _ _ (longer_is_other _ _ _ _ c.args.place.now.longer refl refl) _ _ (read_then_left _ _ _ _ _ _ c.in_ok-old.ensures.read c.leave.ensures.locks)

pub returns-in-Err-clause-refused : goal.returns-in-Err-clause-refused
returns-in-Err-clause-refused g c =
    λ other. stays_old _ _ (longer_is_other _ _ _ _ c.args.place.now.longer refl refl) _ _ (read_then_left _ _ _ _ _ _ c.in_ok-old.ensures.read c.leave.ensures.locks)

pub returns-in_err-old-clause-why : goal.returns-in_err-old-clause-why
returns-in_err-old-clause-why g c =
    let p = err_from_is_err_and c.from_residual.result c.from_residual.ensures.1 in
    rw (p.1, p.2) (unread_why _ _ [] _ (λ (r : Replica). deleted_if_held r c.args.first c.args.last) _ c.in_err-old.ensures.why)

pub returns-in_err-left-in-Ok-clause-why : goal.returns-in_err-left-in-Ok-clause-why
returns-in_err-left-in-Ok-clause-why g c =
    let p = err_from_is_err_and c.from_residual-in_err-left-in-Ok.result c.from_residual-in_err-left-in-Ok.ensures.1 in
    rw (p.1, p.2) (fault_why _ _ _ _ (λ (r : Replica). deleted_if_held r c.args.first c.args.last) _ _ c.in_ok-old.ensures.read c.in_err-left-in-Ok.ensures.fault.0 c.in_err-left-in-Ok.ensures.fault.2)

pub returns-in-Err-clause-why : goal.returns-in-Err-clause-why
returns-in-Err-clause-why g c = over_why _ _ _ _ (λ (r : Replica). deleted_if_held r c.args.first c.args.last) _ _ _ _ c.in_ok-old.ensures.read refl c.leave.ensures.locks.1 c.in-Err.ensures

pub returns-in_err-old-clause-own : goal.returns-in_err-old-clause-own
returns-in_err-old-clause-own g c = c.in_err-old.ensures.own

pub returns-in_err-left-in-Ok-clause-own : goal.returns-in_err-left-in-Ok-clause-own
returns-in_err-left-in-Ok-clause-own g c = read_then_gives _ _ _ _ _ _ c.in_ok-old.ensures.read c.finish.ensures.own

pub returns-in_ok-left-in-Ok-clause-own : goal.returns-in_ok-left-in-Ok-clause-own
returns-in_ok-left-in-Ok-clause-own g c = read_then_gives _ _ _ _ _ _ c.in_ok-old.ensures.read c.finish.ensures.own

pub returns-in-Err-clause-own : goal.returns-in-Err-clause-own
returns-in-Err-clause-own g c = read_then_gives _ _ _ _ _ _ c.in_ok-old.ensures.read c.leave.ensures.own
