-- A lock that was renamed is gone.
use Rattle.std.proofs.Common.{◌≡◌, ◌≢◌, ℕ, Bool, true, false, List, [], ◌∷◌, ◌++◌, None, sym, ◌∙◌, ap, append_assoc}
use Rattle.file_protocol.specs.Event.{Event, Renamed, Settled}
use Rattle.file_protocol.specs.Disk.{Disk}
use Rattle.file_protocol.specs.Safe.{RunAlone, LeavesNoLock}
use Rattle.file_protocol.proofs.Kept.{none_moved}
use Rattle.file_protocol.proofs.Splits.{alone_split}

module _ (lock name : List ℕ) (apart : lock ≢ name) where
  gone : (ok : Bool) (d e : Disk) → RunAlone (Settled ok ∷ Renamed lock name true ∷ []) d e → e.names lock ≡ None
  gone true d e (v, (u, same, (file, at, moves)), settles) =
      ap (λ (x : Disk). x.names lock) settles ∙ ap (λ (x : Disk). x.names lock) moves ∙ none_moved lock name apart file u.names
  gone false d e (v, (u, same, (file, at, moves)), settles) =
      ap (λ (x : Disk). x.names lock) settles ∙ ap (λ (x : Disk). x.names lock) moves ∙ none_moved lock name apart file u.names

  pub no_lock : (ok : Bool) (before mid after : List Event) → mid ≡ Renamed lock name true ∷ before → after ≡ Settled ok ∷ mid → LeavesNoLock lock before after
  no_lock ok before mid after first second =
      (Settled ok ∷ Renamed lock name true ∷ [], second ∙ ap (λ (h : List Event). Settled ok ∷ h) first, λ d e run. gone ok d e run)

-- so too after more calls before
pub no_lock_after : (lock : List ℕ) (before mid after : List Event) (earlier : List Event) → mid ≡ earlier ++ before → LeavesNoLock lock mid after → LeavesNoLock lock before after
no_lock_after lock before mid after earlier was (calls, is, none) = (
  calls ++ earlier,
  is ∙ ap (λ (h : List Event). calls ++ h) was ∙ sym (append_assoc calls earlier before),
  λ d e run. let parts = alone_split calls earlier d e run in none parts.0 e parts.2,
)
