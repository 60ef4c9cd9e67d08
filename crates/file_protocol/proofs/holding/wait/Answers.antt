use Rattle.std.proofs.Common.{rules, ◌≡◌, true}
use Rattle.file_protocol.proofs.Locks.{takes_at_last}
use Rattle.file_protocol.proofs.LockCalls.{none, joined}
use Rattle.file_protocol.proofs.Owning.{all_none, all_then, gets_then}
use Rattle.file_protocol.proofs.holding.wait.Goals as goal

pub returns-in-Ok-true-clause-held : goal.returns-in-Ok-true-clause-held
returns-in-Ok-true-clause-held g c = λ name apart.
    let is : c.in-Ok-true.field-0 ≡ true = search rules in
    takes_at_last c.args.lock.now name apart _ _ _ c.loop-error.invariant.locks (c.in-Ok-true.ensures.held name apart is)

pub returns-in-Ok-true-clause-locks : goal.returns-in-Ok-true-clause-locks
returns-in-Ok-true-clause-locks g c = joined c.args.lock.now _ _ _ c.loop-error.invariant.locks c.try_hold.ensures.locks

pub returns-then-not-wait-clause-locks : goal.returns-then-not-wait-clause-locks
returns-then-not-wait-clause-locks g c = joined c.args.lock.now _ _ _ c.loop-error.invariant.locks c.try_hold.ensures.locks

pub returns-in-AlreadyExists-clause-locks : goal.returns-in-AlreadyExists-clause-locks
returns-in-AlreadyExists-clause-locks g c = joined c.args.lock.now _ _ _ c.loop-error.invariant.locks c.try_hold.ensures.locks

pub returns-in_default : goal.returns-in_default
returns-in_default g c = record { own = all_then c.args.lock.now _ _ _ c.loop-error.invariant.own c.try_hold.ensures.own; gets = tt; held = λ name apart. tt; locks = joined c.args.lock.now _ _ _ c.loop-error.invariant.locks c.try_hold.ensures.locks }

pub loop-error-preserved : goal.loop-error-preserved
loop-error-preserved g c = record {
  locks = joined c.args.lock.now _ _ _ c.loop-error.invariant.locks c.try_hold.ensures.locks;
  own = all_then c.args.lock.now _ _ _ c.loop-error.invariant.own c.try_hold.ensures.own;
}

pub loop-error-init : goal.loop-error-init
loop-error-init g c = record { locks = none c.args.lock.now _; own = all_none c.args.lock.now _ }

pub returns-in-Ok-true-clause-own : goal.returns-in-Ok-true-clause-own
returns-in-Ok-true-clause-own g c = all_then c.args.lock.now _ _ _ c.loop-error.invariant.own c.try_hold.ensures.own

pub returns-in-Ok-true-clause-gets : goal.returns-in-Ok-true-clause-gets
returns-in-Ok-true-clause-gets g c =
    let is : c.in-Ok-true.field-0 ≡ true = search rules in
    gets_then c.args.lock.now _ _ _ c.loop-error.invariant.own (c.in-Ok-true.ensures.gets is)

pub returns-then-not-wait-clause-own : goal.returns-then-not-wait-clause-own
returns-then-not-wait-clause-own g c = all_then c.args.lock.now _ _ _ c.loop-error.invariant.own c.try_hold.ensures.own

pub returns-in-AlreadyExists-clause-own : goal.returns-in-AlreadyExists-clause-own
returns-in-AlreadyExists-clause-own g c = all_then c.args.lock.now _ _ _ c.loop-error.invariant.own c.try_hold.ensures.own
