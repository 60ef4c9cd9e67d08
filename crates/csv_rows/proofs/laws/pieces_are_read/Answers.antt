use Rattle.std.proofs.Common.{None}
use Rattle.csv_rows.proofs.CutTexts as cut
use Rattle.csv_rows.proofs.laws.pieces_are_read.Goals as goal

pub returns : goal.returns
returns c = λ dialect table has first pieces are_cut. cut.pieces_are_read dialect table has None first pieces are_cut
