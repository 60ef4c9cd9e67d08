-- The widths of the columns before this one.
use Rattle.std.proofs.Common.{◌≡◌, take}
use Rattle.replica_reports.specs.ColumnTexts.{column_widths}
use Rattle.replica_reports.proofs.columns_text.widths.Given as goal

abbrev pub invariant-loop-column : goal.invariant-loop-column
invariant-loop-column l = l.all.items ≡ column_widths 0 (take l.column l.heading) l.lines
