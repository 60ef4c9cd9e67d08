-- Calls on a lock, one after another.
use Rattle.std.proofs.Common.{◌≡◌, ◌≢◌, ℕ, Bool, true, List, [], ◌∷◌, ◌++◌, Some, refl, sym, ◌∙◌, ap, append_assoc}
use Rattle.file_protocol.specs.Event.{Event, Opened, Locked, Compared}
use Rattle.file_protocol.specs.Safe.{TakesLock}
use Rattle.file_protocol.specs.Locking.{IsLocking, AllLocking, OnlyLocks}
use Rattle.file_protocol.proofs.Locks.{takes_lock}

module _ (lock : List ℕ) where
  pub none : (before : List Event) → OnlyLocks lock before before
  none before = ([], refl, tt)

  pub one : (call : Event) (before after : List Event) → after ≡ call ∷ before → IsLocking lock call → OnlyLocks lock before after
  one call before after is locking = (call ∷ [], is, (locking, tt))

  pub more : (call : Event) (before mid after : List Event) → OnlyLocks lock before mid → after ≡ call ∷ mid → IsLocking lock call → OnlyLocks lock before after
  more call before mid after (calls, was, all) is locking = (call ∷ calls, is ∙ ap (λ (h : List Event). call ∷ h) was, (locking, all))

  all_and : (later earlier : List Event) → AllLocking lock later → AllLocking lock earlier → AllLocking lock (later ++ earlier)
  all_and [] earlier all rest = rest
  all_and (call ∷ later) earlier all rest = (all.0, all_and later earlier all.1 rest)

  pub joined : (before mid after : List Event) → OnlyLocks lock before mid → OnlyLocks lock mid after → OnlyLocks lock before after
  joined before mid after (earlier, was, all) (calls, is, rest) =
      (calls ++ earlier, is ∙ ap (λ (h : List Event). calls ++ h) was ∙ sym (append_assoc calls earlier before), all_and calls earlier rest all)

  -- made, locked and still of its name
  pub taken : (name : List ℕ) → lock ≢ name → (made got same : Bool) (h0 h1 h2 h3 : List Event) → h1 ≡ Opened lock (Some made) ∷ h0 → h2 ≡ Locked got ∷ h1 → h3 ≡ Compared lock same ∷ h2
      → made ≡ true → got ≡ true → same ≡ true → TakesLock lock name h0 h3
  taken name apart made got same h0 h1 h2 h3 first second third is_made is_got is_same =
      takes_lock lock name apart h0 h3 (
      third
      ∙ ap (λ (h : List Event). Compared lock same ∷ h) (second ∙ ap (λ (h : List Event). Locked got ∷ h) first)
      ∙ ap (λ (b : Bool). Compared lock b ∷ Locked got ∷ Opened lock (Some made) ∷ h0) is_same
      ∙ ap (λ (b : Bool). Compared lock true ∷ Locked b ∷ Opened lock (Some made) ∷ h0) is_got
      ∙ ap (λ (b : Bool). Compared lock true ∷ Locked true ∷ Opened lock (Some b) ∷ h0) is_made
      )
