use Rattle.std.proofs.Common.{[], ◌∷◌, Some, refl}
use Rattle.file_protocol.specs.Event.{Opened, Locked, Compared}
use Rattle.file_protocol.proofs.Steps.{on_err}
use Rattle.file_protocol.proofs.Failing.{fails_now, fails_later}
use Rattle.file_protocol.proofs.LockCalls.{one, more, taken}
use Rattle.file_protocol.proofs.Owning.{opens, asks, compares_all, gets_lock, gets_removed}
use Rattle.file_protocol.proofs.holding.try_hold.Goals as goal

pub returns-in_err-is_new-clause-locks : goal.returns-in_err-is_new-clause-locks
returns-in_err-is_new-clause-locks g c = one c.args.lock.now _ _ _ c.in_err-is_new.ensures refl

pub returns-in_err-is_new-clause-cause : goal.returns-in_err-is_new-clause-cause
returns-in_err-is_new-clause-cause g c = on_err c.from_residual.result (fails_now _ _ _ c.in_err-is_new.ensures refl)

pub returns-in_err-try_lock-clause-locks : goal.returns-in_err-try_lock-clause-locks
returns-in_err-try_lock-clause-locks g c =
    more c.args.lock.now _ _ _ _ (one c.args.lock.now _ _ _ c.in_ok-is_new.ensures refl) c.in_err-try_lock.ensures tt

pub returns-in_err-try_lock-clause-cause : goal.returns-in_err-try_lock-clause-cause
returns-in_err-try_lock-clause-cause g c =
    on_err _ (fails_later _ _ _ (Opened c.args.lock.now (Some _) ∷ []) c.in_ok-is_new.ensures (fails_now _ _ _ c.in_err-try_lock.ensures refl))

pub returns-then-not-branch-clause-locks : goal.returns-then-not-branch-clause-locks
returns-then-not-branch-clause-locks g c =
    more c.args.lock.now _ _ _ _ (one c.args.lock.now _ _ _ c.in_ok-is_new.ensures refl) c.in_ok-try_lock.ensures tt

pub returns-then-not-is_named-clause-locks : goal.returns-then-not-is_named-clause-locks
returns-then-not-is_named-clause-locks g c =
    let lock = c.args.lock.now in
    more lock _ _ _ _ (more lock _ _ _ _ (one lock _ _ _ c.in_ok-is_new.ensures refl) c.in_ok-try_lock.ensures tt) c.is_named.ensures tt

pub returns-then-is_new-clause-held : goal.returns-then-is_new-clause-held
returns-then-is_new-clause-held g c = λ name apart is.
    taken c.args.lock.now name apart _ _ _ _ _ _ _ c.in_ok-is_new.ensures c.in_ok-try_lock.ensures c.is_named.ensures c.if-is_new.true c.if-not-branch.false c.if-not-is_named.false

pub returns-then-is_new-clause-locks : goal.returns-then-is_new-clause-locks
returns-then-is_new-clause-locks g c =
    let lock = c.args.lock.now in
    more lock _ _ _ _ (more lock _ _ _ _ (one lock _ _ _ c.in_ok-is_new.ensures refl) c.in_ok-try_lock.ensures tt) c.is_named.ensures tt

pub returns-in-Ok-clause-locks : goal.returns-in-Ok-clause-locks
returns-in-Ok-clause-locks g c =
    let lock = c.args.lock.now in
    more lock _ _ _ _ (more lock _ _ _ _ (more lock _ _ _ _ (one lock _ _ _ c.in_ok-is_new.ensures refl) c.in_ok-try_lock.ensures tt) c.is_named.ensures tt) c.in-Ok.ensures refl

pub returns-in-Err-clause-locks : goal.returns-in-Err-clause-locks
returns-in-Err-clause-locks g c =
    let lock = c.args.lock.now in
    more lock _ _ _ _ (more lock _ _ _ _ (more lock _ _ _ _ (one lock _ _ _ c.in_ok-is_new.ensures refl) c.in_ok-try_lock.ensures tt) c.is_named.ensures tt) c.in-Err.ensures refl

pub returns-in-Err-clause-cause : goal.returns-in-Err-clause-cause
returns-in-Err-clause-cause g c =
    let lock = c.args.lock.now in
    fails_later _ _ _ (Opened lock (Some _) ∷ []) c.in_ok-is_new.ensures
    (fails_later _ _ _ (Locked _ ∷ []) c.in_ok-try_lock.ensures (fails_later _ _ _ (Compared lock _ ∷ []) c.is_named.ensures (fails_now _ _ _ c.in-Err.ensures refl)))

pub returns-in_err-is_new-clause-own : goal.returns-in_err-is_new-clause-own
returns-in_err-is_new-clause-own g c = opens c.args.lock.now _ _ _ c.in_err-is_new.ensures

pub returns-in_err-try_lock-clause-own : goal.returns-in_err-try_lock-clause-own
returns-in_err-try_lock-clause-own g c = asks c.args.lock.now _ _ _ _ _ c.in_ok-is_new.ensures c.in_err-try_lock.ensures

pub returns-then-not-branch-clause-own : goal.returns-then-not-branch-clause-own
returns-then-not-branch-clause-own g c = asks c.args.lock.now _ _ _ _ _ c.in_ok-is_new.ensures c.in_ok-try_lock.ensures

pub returns-then-not-is_named-clause-own : goal.returns-then-not-is_named-clause-own
returns-then-not-is_named-clause-own g c = compares_all c.args.lock.now _ _ _ _ _ _ _ c.in_ok-is_new.ensures c.in_ok-try_lock.ensures c.is_named.ensures

pub returns-then-is_new-clause-own : goal.returns-then-is_new-clause-own
returns-then-is_new-clause-own g c = compares_all c.args.lock.now _ _ _ _ _ _ _ c.in_ok-is_new.ensures c.in_ok-try_lock.ensures c.is_named.ensures

pub returns-then-is_new-clause-gets : goal.returns-then-is_new-clause-gets
returns-then-is_new-clause-gets g c = λ is.
    gets_lock c.args.lock.now _ _ _ _ _ _ _ c.in_ok-is_new.ensures c.in_ok-try_lock.ensures c.is_named.ensures c.if-not-branch.false c.if-not-is_named.false

pub returns-in-Ok-clause-own : goal.returns-in-Ok-clause-own
returns-in-Ok-clause-own g c =
    gets_removed c.args.lock.now _ _ _ _
    (gets_lock c.args.lock.now _ _ _ _ _ _ _ c.in_ok-is_new.ensures c.in_ok-try_lock.ensures c.is_named.ensures c.if-not-branch.false c.if-not-is_named.false)
    c.in-Ok.ensures

pub returns-in-Err-clause-own : goal.returns-in-Err-clause-own
returns-in-Err-clause-own g c =
    gets_removed c.args.lock.now _ _ _ _
    (gets_lock c.args.lock.now _ _ _ _ _ _ _ c.in_ok-is_new.ensures c.in_ok-try_lock.ensures c.is_named.ensures c.if-not-branch.false c.if-not-is_named.false)
    c.in-Err.ensures
