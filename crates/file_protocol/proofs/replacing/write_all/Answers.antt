use Rattle.std.proofs.Common.{refl, length-take, length-drop, arith}
use Rattle.file_protocol.specs.Phase.{Dirty}
use Rattle.file_protocol.proofs.Steps.{goes_on, back, one_more, on_err}
use Rattle.file_protocol.proofs.Owning.{owns_more}
use Rattle.file_protocol.proofs.Failing.{fails_now, fails_later}
use Rattle.file_protocol.proofs.replacing.write_all.Goals as goal

pub returns-in_err-taken-clause-err : goal.returns-in_err-taken-clause-err
returns-in_err-taken-clause-err g c =
    let failed = goes_on c.args.lock.now c.args.name.now c.args.bytes.now _ _ _ _ _ _ Dirty c.loop-done.invariant.told c.in_err-taken.ensures.noted refl in
    let all = back c.args.lock.now c.args.name.now c.args.bytes.now _ _ _ Dirty failed refl in
    on_err c.from_residual.result all

pub returns-then-taken-eq0-clause-err : goal.returns-then-taken-eq0-clause-err
returns-then-taken-eq0-clause-err g c =
    (_, goes_on c.args.lock.now c.args.name.now c.args.bytes.now _ _ _ _ _ _ _ c.loop-done.invariant.told c.in_ok-taken.ensures.noted refl, refl)

pub loop-done-preserved : goal.loop-done-preserved
loop-done-preserved g c = record {
  within =
      let bound = c.in_ok-taken.ensures.bound in
      omega (arith, c.loop-done.invariant.within, simp (length-take, length-drop) at bound);
  told = goes_on c.args.lock.now c.args.name.now c.args.bytes.now _ _ _ _ _ _ _ c.loop-done.invariant.told c.in_ok-taken.ensures.noted (one_more c.args.bytes.now c.loop-done.done c.in_ok-taken.taken);
  owned = owns_more c.args.lock.now _ _ _ _ _ _ c.loop-done.invariant.owned c.in_ok-taken.ensures.noted refl;
}

pub returns-in_err-taken-clause-cause : goal.returns-in_err-taken-clause-cause
returns-in_err-taken-clause-cause g c =
    let so_far = c.loop-done.invariant.told in
    on_err c.from_residual.result (fails_later _ _ _ so_far.0 so_far.1 (fails_now _ _ _ c.in_err-taken.ensures.noted tt))

pub returns-then-taken-eq0-clause-cause : goal.returns-then-taken-eq0-clause-cause
returns-then-taken-eq0-clause-cause g c =
    let so_far = c.loop-done.invariant.told in
    fails_later _ _ _ so_far.0 so_far.1 (fails_now _ _ _ c.in_ok-taken.ensures.noted c.if-taken-eq0.true)

pub returns-in_err-taken-clause-own : goal.returns-in_err-taken-clause-own
returns-in_err-taken-clause-own g c = owns_more c.args.lock.now _ _ _ _ _ _ c.loop-done.invariant.owned c.in_err-taken.ensures.noted refl

pub returns-then-taken-eq0-clause-own : goal.returns-then-taken-eq0-clause-own
returns-then-taken-eq0-clause-own g c = owns_more c.args.lock.now _ _ _ _ _ _ c.loop-done.invariant.owned c.in_ok-taken.ensures.noted refl
