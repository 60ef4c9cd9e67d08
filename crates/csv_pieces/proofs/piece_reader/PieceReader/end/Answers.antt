-- A part of a line is one line at most.
use Rattle.std.proofs.Common.{rules, length}
use Rattle.csv_pieces.specs.PieceReading.{Waits}
use Rattle.csv_pieces.proofs.Takings.{part_room}
use Rattle.csv_pieces.proofs.piece_reader.PieceReader.end.Goals as goal

pub read_lines-requires-clause-room : goal.read_lines-requires-clause-room
read_lines-requires-clause-room c =
    let waits : Waits c.self.inside.csv c.self.inside.part.items = search rules in
    part_room c.self.inside.csv c.self.inside.part.items c.as_slice.result.now (length c.args.rows.now) waits.none waits.no_end c.as_slice.ensures.value c.requires.few
