-- As many rooms as places so far.
use Rattle.std.proofs.Common.{◌≡◌, length}
use Rattle.replica_reports.proofs.dump_rooms.rooms_for.Given as goal

abbrev pub invariant-loop-place : goal.invariant-loop-place
invariant-loop-place l = length l.rooms.items ≡ l._place-index
