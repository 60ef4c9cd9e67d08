use Rattle.std.proofs.Common.{refl}
use Rattle.std.proofs.lemmas.Result.{err_from_is_err_and}
use Rattle.file_commands.proofs.CrashProofs.{finishes, changed_any, left_any}
use Rattle.file_commands.proofs.under_lock.finish.Goals as goal

pub returns-in_err-how-clause-any_moment : goal.returns-in_err-how-clause-any_moment
returns-in_err-how-clause-any_moment g c = changed_any _ _ _ _ _ c.args.is_changed c.if-is_changed.true c.put.ensures.any_moment

pub returns-in_err-how-clause-fault : goal.returns-in_err-how-clause-fault
returns-in_err-how-clause-fault g c =
    let p = err_from_is_err_and c.from_residual.result c.from_residual.ensures.1 in
    rw (p.1, p.2) (c.in_err-how.ensures.fault, c.if-is_changed.true, c.in_err-how.ensures.cause)

pub returns-in_ok-how-clause-any_moment : goal.returns-in_ok-how-clause-any_moment
returns-in_ok-how-clause-any_moment g c = changed_any _ _ _ _ _ c.args.is_changed c.if-is_changed.true c.put.ensures.any_moment

pub returns-in_ok-how-clause-finished : goal.returns-in_ok-how-clause-finished
returns-in_ok-how-clause-finished g c = finishes _ _ _ _ _ c.in_ok-how.how c.args.is_changed c.if-is_changed.true c.in_ok-how.ensures.synced c.in_ok-how.ensures.in_place

pub returns-in-Ok-clause-any_moment : goal.returns-in-Ok-clause-any_moment
returns-in-Ok-clause-any_moment g c = left_any _ _ _ _ _ c.args.is_changed c.if-is_changed.false c.keep.ensures.keeps

pub returns-in-Ok-clause-finished : goal.returns-in-Ok-clause-finished
returns-in-Ok-clause-finished g c = (c.if-is_changed.false, c.keep.ensures.keeps, c.in-Ok.ensures.on_disk)

pub returns-in-Err-clause-any_moment : goal.returns-in-Err-clause-any_moment
returns-in-Err-clause-any_moment g c = left_any _ _ _ _ _ c.args.is_changed c.if-is_changed.false c.keep.ensures.keeps

pub returns-in-Err-clause-finished : goal.returns-in-Err-clause-finished
returns-in-Err-clause-finished g c = (c.if-is_changed.false, c.keep.ensures.keeps, c.in-Err.ensures.cause)

pub returns-in_err-how-clause-own : goal.returns-in_err-how-clause-own
returns-in_err-how-clause-own g c = c.put.ensures.own

pub returns-in_ok-how-clause-own : goal.returns-in_ok-how-clause-own
returns-in_ok-how-clause-own g c = c.put.ensures.own

pub returns-in-Ok-clause-own : goal.returns-in-Ok-clause-own
returns-in-Ok-clause-own g c = c.keep.ensures.own

pub returns-in-Err-clause-own : goal.returns-in-Err-clause-own
returns-in-Err-clause-own g c = c.keep.ensures.own
