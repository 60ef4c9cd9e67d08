use Rattle.std.proofs.Common.{List, ℕ, Result, Ok, Err, OnOk, OnErr, IfOk, ◌∙◌}
use Rattle.std.specs.Result.{is_ok}
use Rattle.file_protocol.specs.declared.outcome.Replaced.{Replaced}
use Rattle.file_protocol.specs.Event.{Event}
use Rattle.file_protocol.specs.Phase.{Holding, Ready, Gone, Goes, GoesInTurn}
use Rattle.file_protocol.specs.Outcome.{phase_of}
use Rattle.file_protocol.specs.Safe.{LeavesNoLock}
use Rattle.file_protocol.specs.Failed.{HasFailed}
use Rattle.file_protocol.proofs.Steps.{goes_on, joins, removes, answered_in_turn, gone_in_turn}
use Rattle.file_protocol.proofs.NoLock.{no_lock_after}
use Rattle.file_protocol.proofs.Owning.{then_owns, removes_own}
use Rattle.file_protocol.proofs.Failing.{fails_later, failed_before}
use Rattle.file_protocol.proofs.replacing.exchange.Goals as goal

module _ (lock name new : List ℕ) where
  ends : {E : Type 0} (r : Result Replaced E) (before mid after : List Event) → Goes lock name new before Holding mid (Ready new)
      → IfOk r (λ how. Goes lock name new mid (Ready new) after (phase_of how)) → OnErr r (GoesInTurn lock name new mid (Ready new) after) → GoesInTurn lock name new before Holding after
  ends (Ok how) before mid after first ok err = (phase_of how, joins lock name new before Holding mid (Ready new) after (phase_of how) first ok, answered_in_turn how)
  ends (Err x) before mid after first ok err = (err.0, joins lock name new before Holding mid (Ready new) after err.0 first err.1, err.2)

  answers : {E : Type 0} (r : Result Replaced E) (before mid after : List Event) → Goes lock name new before Holding mid (Ready new)
      → IfOk r (λ how. Goes lock name new mid (Ready new) after (phase_of how)) → IfOk r (λ how. Goes lock name new before Holding after (phase_of how))
  answers (Ok how) before mid after first ok = joins lock name new before Holding mid (Ready new) after (phase_of how) first ok
  answers (Err x) before mid after first ok = tt

  leaves : {T E : Type 0} (r : Result T E) (before mid after : List Event) → Goes lock name new before Holding mid (Ready new)
      → OnOk r (LeavesNoLock lock mid after) → OnOk r (LeavesNoLock lock before after)
  leaves (Ok x) before mid after first ok = no_lock_after lock before mid after first.0 first.1 ok
  leaves (Err x) before mid after first ok = tt

  fails : {T E : Type 0} (r : Result T E) (before mid after : List Event) → Goes lock name new before Holding mid (Ready new)
      → OnErr r (HasFailed mid after) → OnErr r (HasFailed before after)
  fails (Ok x) before mid after first err = tt
  fails (Err x) before mid after first err = fails_later before mid after first.0 first.1 err

pub returns-in-Ok-clause-in_turn : goal.returns-in-Ok-clause-in_turn
returns-in-Ok-clause-in_turn g c =
    ends c.args.lock.now c.args.name.now c.args.bytes.now c.put.result _ _ _ c.in-Ok.ensures.ok c.put.ensures.ok c.put.ensures.err

pub returns-in-Ok-clause-ok : goal.returns-in-Ok-clause-ok
returns-in-Ok-clause-ok g c =
    answers c.args.lock.now c.args.name.now c.args.bytes.now c.put.result _ _ _ c.in-Ok.ensures.ok c.put.ensures.ok

pub returns-in-Ok-clause-no_lock : goal.returns-in-Ok-clause-no_lock
returns-in-Ok-clause-no_lock g c =
    leaves c.args.lock.now c.args.name.now c.args.bytes.now c.put.result _ _ _ c.in-Ok.ensures.ok c.put.ensures.no_lock

pub returns-in-Ok-clause-cause : goal.returns-in-Ok-clause-cause
returns-in-Ok-clause-cause g c =
    fails c.args.lock.now c.args.name.now c.args.bytes.now c.put.result _ _ _ c.in-Ok.ensures.ok c.put.ensures.cause

pub returns-in-Err-clause-in_turn : goal.returns-in-Err-clause-in_turn
returns-in-Err-clause-in_turn g c =
    let back = c.in-Err.ensures.err in
    (Gone, goes_on c.args.lock.now c.args.name.now c.args.bytes.now _ _ _ _ _ _ Gone back.1 c.remove.ensures (removes c.args.lock.now c.args.name.now c.args.bytes.now (is_ok c.remove.result) back.0 ∙ back.2), gone_in_turn)

pub returns-in-Err-clause-unchanged : goal.returns-in-Err-clause-unchanged
returns-in-Err-clause-unchanged g c =
    let back = c.in-Err.ensures.err in
    let all = goes_on c.args.lock.now c.args.name.now c.args.bytes.now _ _ _ _ _ _ Gone back.1 c.remove.ensures (removes c.args.lock.now c.args.name.now c.args.bytes.now (is_ok c.remove.result) back.0 ∙ back.2) in
    λ _. all

pub returns-in-Err-clause-cause : goal.returns-in-Err-clause-cause
returns-in-Err-clause-cause g c = failed_before _ _ _ _ c.remove.ensures c.in-Err.ensures.cause

pub returns-in-Ok-clause-own : goal.returns-in-Ok-clause-own
returns-in-Ok-clause-own g c = then_owns c.args.lock.now _ _ _ _ _ _ c.fill.ensures.own c.put.ensures.own

pub returns-in-Err-clause-own : goal.returns-in-Err-clause-own
returns-in-Err-clause-own g c = removes_own c.args.lock.now _ _ _ _ c.fill.ensures.own c.remove.ensures
