-- Calls in turn are our own.
use Rattle.std.proofs.Common.{◌≡◌, ◌≢◌, ℕ, Bool, true, false, ◌&&◌, List, [], ◌∷◌, refl, sym, ◌∙◌}
use Rattle.std.specs.Str.{bytes_eq}
use Rattle.std.proofs.lemmas.Bool.{and_parts}
use Rattle.std.proofs.lemmas.Slice.Eq.{bytes_eq-Decides}
use Rattle.file_protocol.specs.Event.{Event, Opened, Locked, Compared, Emptied, Wrote, Synced, Renamed, Removed, Settled, SyncedFile, Read}
use Rattle.file_protocol.specs.Safe.{IsOurs, AllOurs, OnlyOurs, StaysKept}
use Rattle.file_protocol.specs.Phase.{Phase, Holding, Ready, Bad, renamed, renamed_from, removed, next, phase_after, Goes}
use Rattle.file_protocol.proofs.Sound.{was_fine}
use Rattle.file_protocol.proofs.Kept.{kept_moment}

module _ (lock name new : List ℕ) where
  ours_removed : (same : Bool) (n : List ℕ) (p : Phase) → (same ≡ true → n ≡ lock) → removed same p ≢ Bad → n ≡ lock
  ours_removed true n p is fine = is refl
  ours_removed false n p is fine = absurd (fine refl)

  ours_renamed : (same ok : Bool) (from to : List ℕ) (p : Phase) → (same ≡ true → (from ≡ lock) × (to ≡ name)) → renamed same ok p ≢ Bad → (from ≡ lock) × (to ≡ name)
  ours_renamed true ok from to p is fine = is refl
  ours_renamed false ok from to p is fine = absurd (fine refl)

  both : (from to c : List ℕ) → (bytes_eq from lock && bytes_eq to name && bytes_eq c new) ≡ true → (from ≡ lock) × (to ≡ name)
  both from to c e =
      let parts = and_parts (bytes_eq from lock && bytes_eq to name) (bytes_eq c new) e in
      let front = and_parts (bytes_eq from lock) (bytes_eq to name) parts.0 in
      ((bytes_eq-Decides from lock).0 front.0, (bytes_eq-Decides to name).0 front.1)

  ours_renamed_from : (from to : List ℕ) (ok : Bool) (p : Phase) → renamed_from lock name new from to ok p ≢ Bad → (from ≡ lock) × (to ≡ name)
  ours_renamed_from from to ok (Ready c) fine = ours_renamed _ ok from to (Ready c) (both from to c) fine
  ours_renamed_from from to ok p fine = absurd (fine refl)

  ours_next : (call : Event) (p : Phase) → next lock name new call p ≢ Bad → IsOurs lock name call
  ours_next (Opened n made) p fine = absurd (fine refl)
  ours_next (Locked got) p fine = tt
  ours_next (Compared n same) p fine = tt
  ours_next (Emptied ok) p fine = tt
  ours_next (Wrote b n) p fine = tt
  ours_next (Synced ok) p fine = tt
  ours_next (Renamed from to ok) p fine = ours_renamed_from from to ok p fine
  ours_next (Removed n ok) p fine = ours_removed (bytes_eq n lock) n p (λ e. (bytes_eq-Decides n lock).0 e) fine
  ours_next (Settled ok) p fine = tt
  ours_next (SyncedFile n ok) p fine = absurd (fine refl)
  ours_next (Read n a) p fine = tt

  all_ours : (calls : List Event) → phase_after lock name new Holding calls ≢ Bad → AllOurs lock name calls
  all_ours [] fine = tt
  all_ours (call ∷ earlier) fine =
      let p = phase_after lock name new Holding earlier in
      (ours_next call p fine, all_ours earlier (was_fine lock name new call p fine))

  pub only_ours : (before after : List Event) (q : Phase) → Goes lock name new before Holding after q → q ≢ Bad → OnlyOurs lock name before after
  only_ours before after q goes fine = (goes.0, goes.1, all_ours goes.0 (λ bad. fine (sym goes.2 ∙ bad)))

  pub stays_kept : (before after : List Event) (q : Phase) → Goes lock name new before Holding after q → q ≢ Bad → lock ≢ name → StaysKept lock name before after
  stays_kept before after q goes fine apart =
      (goes.0, goes.1, λ laters d e kept moment. kept_moment lock name apart laters goes.0 d e (all_ours goes.0 (λ bad. fine (sym goes.2 ∙ bad))) kept moment)
