-- The number of each cell, and whether it is null, are decoded.
use Rattle.query_eval.specs.Vector.{cell_at, vector_of}
use Rattle.replica_reports.proofs.DecodedRooms.{room_of}
use Rattle.replica_reports.proofs.dump_rooms.ColumnRoom.read.Goals as goal

pub returns-clause-cells : goal.returns-clause-cells
returns-clause-cells g c =
    room_of (record { numbers = c.cells_into-self.new.numbers; nulls = c.cells_into-self.result }) (cell_at (vector_of (g.C.Columns.seen c.args.columns.now).state c.args.id) c.args.column) c.cells_into-self.ensures.numbers c.cells_into-self.ensures.nulls
