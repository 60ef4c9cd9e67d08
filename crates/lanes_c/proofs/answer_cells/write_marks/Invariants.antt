-- The marks of the first rows are written.
use Rattle.std.proofs.Common.{◌≡◌, take}
use Rattle.lanes_c.specs.AnswerCells.{marks_in}
use Rattle.lanes_c.proofs.answer_cells.write_marks.Given as goal

abbrev pub invariant-loop-row : goal.invariant-loop-row
invariant-loop-row l = take l.row l.marks ≡ marks_in l.column (take l.row l.rows)
