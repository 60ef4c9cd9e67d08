use Rattle.file_protocol.specs.Locking.{OnlyLocks}
use Rattle.file_protocol.specs.Owning.{OwnsAll}
use Rattle.file_protocol.proofs.holding.wait.Given as goal

-- the lock alone was touched so far, and removed only by who had it
abbrev pub invariant-loop-error : goal.invariant-loop-error
invariant-loop-error g l =
    let history = g.F.FileFolder.history in
    record {
      locks : OnlyLocks l.lock (history l.fn.folder) (history l.folder);
      own : OwnsAll l.lock (history l.fn.folder) (history l.folder);
    }

-- what is left of the patience
abbrev pub decreases-loop-error : goal.decreases-loop-error
decreases-loop-error g l = l.patience.0
