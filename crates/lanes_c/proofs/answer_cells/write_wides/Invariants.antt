-- The numbers of the first rows are written.
use Rattle.std.proofs.Common.{◌≡◌, take, map}
use Rattle.lanes_c.specs.AnswerCells.{numbers_in, wide_number}
use Rattle.lanes_c.proofs.answer_cells.write_wides.Given as goal

abbrev pub invariant-loop-row : goal.invariant-loop-row
invariant-loop-row l = map wide_number (take l.row l.wides) ≡ numbers_in l.column (take l.row l.rows)
