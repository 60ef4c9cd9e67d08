-- Calls that sync a file and its folder, one after another.
use Rattle.std.proofs.Common.{◌≡◌, ◌≢◌, ℕ, Bool, true, List, [], ◌∷◌, ◌++◌, Result, Ok, Err, OnOk, OnErr, refl, ◌∙◌, ap}
use Rattle.std.specs.Result.{is_ok}
use Rattle.file_protocol.specs.Event.{Event, Removed, Settled, SyncedFile}
use Rattle.file_protocol.specs.Failed.{HasFailed}
use Rattle.file_protocol.specs.Locking.{IsKeeping, OnlyKeeps}
use Rattle.file_protocol.specs.Whole.{StaysOnDisk}
use Rattle.file_protocol.proofs.Failing.{fails_now, fails_later, failed_before}
use Rattle.file_protocol.proofs.OnDisk.{stays_on_disk}

module _ (lock : List ℕ) where
  pub one : (call : Event) (before after : List Event) → after ≡ call ∷ before → IsKeeping lock call → OnlyKeeps lock before after
  one call before after is keeping = (call ∷ [], is, (keeping, tt))

  pub more : (call : Event) (before mid after : List Event) → OnlyKeeps lock before mid → after ≡ call ∷ mid → IsKeeping lock call → OnlyKeeps lock before after
  more call before mid after (calls, was, all) is keeping = (call ∷ calls, is ∙ ap (λ (h : List Event). call ∷ h) was, (keeping, all))

  -- both were synced, and the lock was given back
  pub kept_ok : {T E : Type 0} (name : List ℕ) → lock ≢ name → (r : Result T E) (ok : Bool) (before mid after : List Event)
      → OnOk r (mid ≡ Settled true ∷ SyncedFile name true ∷ before) → after ≡ Removed lock ok ∷ mid → OnOk r (StaysOnDisk lock name before after)
  kept_ok name apart (Ok x) ok before mid after synced removed = stays_on_disk lock name apart ok before after (removed ∙ ap (λ (h : List Event). Removed lock ok ∷ h) synced)
  kept_ok name apart (Err e) ok before mid after synced removed = tt

-- a sync of the folder that failed, after some calls
pub ends_settled : {T E : Type 0} (r : Result T E) (before mid after earlier : List Event) → mid ≡ earlier ++ before → after ≡ Settled (is_ok r) ∷ mid → OnErr r (HasFailed before after)
ends_settled (Ok x) before mid after earlier was is = tt
ends_settled (Err e) before mid after earlier was is = fails_later before mid after earlier was (fails_now _ mid after is refl)

-- a failure, and then the lock was given back
pub failed_then : {T E : Type 0} (r : Result T E) (call : Event) (before mid after : List Event) → after ≡ call ∷ mid → OnErr r (HasFailed before mid) → OnErr r (HasFailed before after)
failed_then (Ok x) call before mid after is failed = tt
failed_then (Err e) call before mid after is failed = failed_before call before mid after is failed
