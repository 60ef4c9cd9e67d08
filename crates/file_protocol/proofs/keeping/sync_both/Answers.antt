use Rattle.std.proofs.Common.{[], ◌∷◌, true, List, refl, ◌∙◌, ap}
use Rattle.std.specs.Result.{is_ok}
use Rattle.file_protocol.specs.Event.{Event, Settled, SyncedFile}
use Rattle.file_protocol.specs.Owning.{OwnLock}
use Rattle.file_protocol.proofs.Steps.{on_err}
use Rattle.file_protocol.proofs.Owning.{owns_one, owns_more}
use Rattle.file_protocol.proofs.Failing.{fails_now, fails_later}
use Rattle.file_protocol.proofs.KeepCalls.{one, more, ends_settled}
use Rattle.file_protocol.proofs.keeping.sync_both.Goals as goal

pub returns-in_err-sync_file-clause-keeps : goal.returns-in_err-sync_file-clause-keeps
returns-in_err-sync_file-clause-keeps g c = λ lock. one lock _ _ _ c.in_err-sync_file.ensures tt

pub returns-in_err-sync_file-clause-cause : goal.returns-in_err-sync_file-clause-cause
returns-in_err-sync_file-clause-cause g c = on_err c.from_residual.result (fails_now _ _ _ c.in_err-sync_file.ensures refl)

pub returns-in_err-open_folder-clause-keeps : goal.returns-in_err-open_folder-clause-keeps
returns-in_err-open_folder-clause-keeps g c = λ lock. more lock _ _ _ _ (one lock _ _ _ c.in_ok-sync_file.ensures tt) c.in_err-open_folder.ensures tt

pub returns-in_err-open_folder-clause-cause : goal.returns-in_err-open_folder-clause-cause
returns-in_err-open_folder-clause-cause g c =
    on_err _ (fails_later _ _ _ (SyncedFile c.args.name.now true ∷ []) c.in_ok-sync_file.ensures (fails_now _ _ _ c.in_err-open_folder.ensures refl))

pub returns-clause-keeps : goal.returns-clause-keeps
returns-clause-keeps g c = λ lock.
    more lock _ _ _ _ (one lock _ _ _ c.in_ok-sync_file.ensures tt)
    (c.settle.ensures ∙ ap (λ (h : List Event). Settled (is_ok c.settle.result) ∷ h) c.in_ok-open_folder.ensures) tt

pub returns-clause-cause : goal.returns-clause-cause
returns-clause-cause g c =
    ends_settled c.settle.result _ _ _ (SyncedFile c.args.name.now true ∷ []) (c.in_ok-open_folder.ensures ∙ c.in_ok-sync_file.ensures) c.settle.ensures

pub returns-in_err-sync_file-clause-own : goal.returns-in_err-sync_file-clause-own
returns-in_err-sync_file-clause-own g c = λ lock. owns_one lock _ _ _ OwnLock c.in_err-sync_file.ensures tt

pub returns-in_err-open_folder-clause-own : goal.returns-in_err-open_folder-clause-own
returns-in_err-open_folder-clause-own g c = λ lock. owns_more lock _ _ _ _ _ _ (owns_one lock _ _ _ OwnLock c.in_ok-sync_file.ensures tt) c.in_err-open_folder.ensures tt

pub returns-clause-own : goal.returns-clause-own
returns-clause-own g c = λ lock.
    owns_more lock _ _ _ _ _ _ (owns_one lock _ _ _ OwnLock c.in_ok-sync_file.ensures tt)
    (c.settle.ensures ∙ ap (λ (h : List Event). Settled (is_ok c.settle.result) ∷ h) c.in_ok-open_folder.ensures) tt
