-- The cells so far are those of the first rooms.
use Rattle.std.proofs.Common.{◌≡◌, take}
use Rattle.replica_reports.specs.DumpRooms.{room_cells}
use Rattle.replica_reports.proofs.dump_rooms.fill_cells.Given as goal

abbrev pub invariant-loop-room : goal.invariant-loop-room
invariant-loop-room l = l.cells.items ≡ room_cells (take l.room-index l.rooms) l.row
