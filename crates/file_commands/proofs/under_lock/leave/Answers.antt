use Rattle.std.specs.Result.{is_ok}
use Rattle.file_protocol.specs.Event.{Removed}
use Rattle.file_protocol.specs.Owning.{OwnLock}
use Rattle.std.proofs.Common.{refl}
use Rattle.file_protocol.proofs.LockCalls.{one}
use Rattle.file_protocol.proofs.Owning.{owns_one}
use Rattle.file_commands.proofs.under_lock.leave.Goals as goal

pub returns-clause-locks : goal.returns-clause-locks
returns-clause-locks g c = one _ (Removed c.lock.result.now (is_ok c.remove.result)) _ _ c.remove.ensures c.lock.ensures

pub returns-clause-own : goal.returns-clause-own
returns-clause-own g c = owns_one _ (Removed c.lock.result.now (is_ok c.remove.result)) _ _ OwnLock c.remove.ensures refl
