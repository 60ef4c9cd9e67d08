-- The first columns are decoded.
use Rattle.std.proofs.Common.{◌≡◌}
use Rattle.replica_reports.proofs.DecodedRooms.{AreDecoded}
use Rattle.replica_reports.proofs.dump_rooms.read_rooms.Given as goal

abbrev pub invariant-loop-index : goal.invariant-loop-index
invariant-loop-index g l =
    let s = (g.C.Columns.seen l.initial.columns).state in
    record {
      cells : AreDecoded s l.id l.places l.index l.rooms;
      table : (g.C.Columns.seen l.columns).table ≡ (g.C.Columns.seen l.initial.columns).table;
      state : (g.C.Columns.seen l.columns).state ≡ s;
    }
