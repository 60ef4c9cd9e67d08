-- The width so far is that of the widest text of the lines before this one.
use Rattle.std.proofs.Common.{◌≡◌, take}
use Rattle.replica_reports.specs.ColumnTexts.{widest_in}
use Rattle.replica_reports.proofs.columns_text.column_width.Given as goal

abbrev pub invariant-loop-line : goal.invariant-loop-line
invariant-loop-line l = l.width ≡ widest_in l.column l.heading (take l.line-index l.lines)
