-- What is known of a call that is asked for without a run.
use Rattle.std.proofs.Common.{◌≡◌, ◌<◌, arith, ℕ, zero, suc, List, [], ◌∷◌, length, get_or, inl, inr, ap, Option, Some, None, Result, Ok, Err, IfOk, sym, map}
use Rattle.folder_model.specs.Disk.{Among}
use Rattle.std.specs.Prelude.{IfSome}
use Rattle.std.specs.String.{string_bytes}
use Rattle.folder_turns.specs.FreeCalls.{IsFree}
use Rattle.folder_turns.specs.Guarding.{IsAhead, IsRemoval, Removes}
use Rattle.folder_turns.specs.declared.guarding.Guard.{Guard}
use Rattle.folder_turns.specs.declared.guarding.Guard.TheVariants as guards
use Rattle.folder_turns.specs.declared.order.Order.{Order}
use Rattle.folder_turns.specs.declared.request.Request.{Request}
use Rattle.folder_turns.specs.declared.request.Request.TheVariants.{Make, Write, Sync, Link, Remove, Settle, Lock, LockShared, ListNames, Unlock, ReadFile}

module _ (order : Order) (guard : Guard) where
  -- one that is free
  free_is : (request : Request) → IsFree request → IsAhead order guard request
  free_is (Make name) free = absurd free
  free_is (Write from) free = absurd free
  free_is Sync free = tt
  free_is (Link from to) free = absurd free
  free_is (Remove name) free = absurd free
  free_is Settle free = absurd free
  free_is Lock free = absurd free
  free_is LockShared free = absurd free
  free_is ListNames free = absurd free
  free_is Unlock free = absurd free
  free_is (ReadFile name) free = tt

  pub free_ahead : {E : Type 0} (r : Result (Option Request) E) → IfOk r (λ next. IfSome next IsFree) → IfOk r (λ next. IfSome next (IsAhead order guard))
  free_ahead (Ok (Some request)) free = free_is request free
  free_ahead (Ok None) free = tt
  free_ahead (Err e) free = tt

  -- a removal under the guard
  removal_is : guard ≡ guards.Guarded → Removes order.task → (request : Request) → IsRemoval (map string_bytes order.names.items) request → IsAhead order guard request
  removal_is guarded removes (Make name) one = absurd one
  removal_is guarded removes (Write from) one = absurd one
  removal_is guarded removes Sync one = absurd one
  removal_is guarded removes (Link from to) one = absurd one
  removal_is guarded removes (Remove name) one = (guarded, removes, one)
  removal_is guarded removes Settle one = absurd one
  removal_is guarded removes Lock one = absurd one
  removal_is guarded removes LockShared one = absurd one
  removal_is guarded removes ListNames one = absurd one
  removal_is guarded removes Unlock one = absurd one
  removal_is guarded removes (ReadFile name) one = absurd one

  pub removal_ahead : {E : Type 0} (r : Result (Option Request) E) → guard ≡ guards.Guarded → Removes order.task
      → IfOk r (λ next. IfSome next (IsRemoval (map string_bytes order.names.items))) → IfOk r (λ next. IfSome next (IsAhead order guard))
  removal_ahead (Ok (Some request)) guarded removes one = removal_is guarded removes request one
  removal_ahead (Ok None) guarded removes one = tt
  removal_ahead (Err e) guarded removes one = tt

-- the one at a place is among some
pub among_get : {X : Type 0} (f : X → List ℕ) (xs : List X) (k : ℕ) (x : X) → k < length xs → get_or xs k x ≡ x → Among (f x) (map f xs)
among_get f [] k x below is = absurd (omega (arith, below))
among_get f (y ∷ ys) zero x below is = inl (ap f (sym is))
among_get f (y ∷ ys) (suc k) x below is = inr (among_get f ys k x (omega (arith, below)) is)
