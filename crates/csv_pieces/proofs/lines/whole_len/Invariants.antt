use Rattle.std.proofs.Common.{◌≤◌, length, drop}
use Rattle.csv_pieces.specs.PieceReading.{IsOpen}
use Rattle.csv_pieces.proofs.lines.whole_len.Given as goal

abbrev pub invariant-loop-len : goal.invariant-loop-len
invariant-loop-len l = record { within : l.len ≤ length l.text; no_end : IsOpen (drop l.len l.text) }

abbrev pub decreases-loop-len : goal.decreases-loop-len
decreases-loop-len l = l.len
