use Rattle.std.proofs.Common.{length, ◌-◌, ◌≤◌, take, []}
use Rattle.file_protocol.specs.Phase.{Filled, Goes}
use Rattle.file_protocol.specs.Owning.{OwnLock, Owns}
use Rattle.file_protocol.proofs.replacing.write_all.Given as goal

-- what was written so far
abbrev pub invariant-loop-done : goal.invariant-loop-done
invariant-loop-done g l =
    let history = g.F.FileFolder.history in
    record {
      within : l.done ≤ length l.bytes;
      told : Goes l.lock l.name l.bytes (history l.fn.folder) (Filled []) (history l.folder) (Filled (take l.done l.bytes));
      owned : Owns l.lock (history l.fn.folder) OwnLock (history l.folder) OwnLock;
    }

abbrev pub decreases-loop-done : goal.decreases-loop-done
decreases-loop-done g l = length l.bytes - l.done
