-- An error has a call that failed.
use Rattle.std.proofs.Common.{◌≡◌, inl, inr, List, [], ◌∷◌, ◌++◌, Result, Ok, Err, OnErr, refl, sym, ◌∙◌, ap, append_assoc}
use Rattle.file_protocol.specs.Event.{Event, Synced}
use Rattle.std.specs.Result.{is_ok}
use Rattle.file_protocol.specs.Failed.{Fails, AnyFails, HasFailed}

pub fails_now : (call : Event) (before after : List Event) → after ≡ call ∷ before → Fails call → HasFailed before after
fails_now call before after is fails = (call ∷ [], is, inl fails)

any_later : (later earlier : List Event) → AnyFails later → AnyFails (later ++ earlier)
any_later [] earlier none = absurd none
any_later (call ∷ later) earlier (inl here) = inl here
any_later (call ∷ later) earlier (inr there) = inr (any_later later earlier there)

any_earlier : (later earlier : List Event) → AnyFails earlier → AnyFails (later ++ earlier)
any_earlier [] earlier any = any
any_earlier (call ∷ later) earlier any = inr (any_earlier later earlier any)

-- a failure after some calls
pub fails_later : (before mid after earlier : List Event) → mid ≡ earlier ++ before → HasFailed mid after → HasFailed before after
fails_later before mid after earlier was (calls, is, any) = (
  calls ++ earlier,
  is ∙ ap (λ (h : List Event). calls ++ h) was ∙ sym (append_assoc calls earlier before),
  any_later calls earlier any,
)

-- a failure, and then one call more
pub failed_before : (call : Event) (before mid after : List Event) → after ≡ call ∷ mid → HasFailed before mid → HasFailed before after
failed_before call before mid after is (calls, was, any) = (call ∷ calls, is ∙ ap (λ (h : List Event). call ∷ h) was, inr any)

-- a sync that failed, after some calls
pub ends_failed : {T E : Type 0} (r : Result T E) (before mid after earlier : List Event) → mid ≡ earlier ++ before → after ≡ Synced (is_ok r) ∷ mid → OnErr r (HasFailed before after)
ends_failed (Ok x) before mid after earlier was is = tt
ends_failed (Err e) before mid after earlier was is = fails_later before mid after earlier was (fails_now _ mid after is refl)
