use Rattle.std.proofs.Common.{refl}
use Rattle.file_protocol.proofs.LockCalls.{more}
use Rattle.file_protocol.proofs.Owning.{gets_removed}
use Rattle.file_protocol.proofs.holding.lock_and_take_mode.Goals as goal

pub returns-then-is_ok-clause-held : goal.returns-then-is_ok-clause-held
returns-then-is_ok-clause-held g c = c.in_ok-wait.ensures.held c.args.name.now c.requires

pub returns-clause-locks : goal.returns-clause-locks
returns-clause-locks g c = more c.args.lock.now _ _ _ _ c.in_ok-wait.ensures.locks c.remove.ensures refl

pub returns-clause-own : goal.returns-clause-own
returns-clause-own g c = gets_removed c.args.lock.now _ _ _ _ c.in_ok-wait.ensures.gets c.remove.ensures
