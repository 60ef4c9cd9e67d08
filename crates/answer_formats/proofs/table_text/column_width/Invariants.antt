use Rattle.std.proofs.Common.{◌≡◌, take}
use Rattle.answer_formats.specs.Formats.{widest}
use Rattle.answer_formats.proofs.table_text.column_width.Given as goal

abbrev pub invariant-loop-row : goal.invariant-loop-row
invariant-loop-row l = l.width ≡ widest l.column l.heading (take l.row-index l.rows)
