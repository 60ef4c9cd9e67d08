-- The lines before this one are there.
use Rattle.std.proofs.Common.{◌≡◌, ◌++◌, take}
use Rattle.std.specs.List.{flat_map}
use Rattle.replica_reports.specs.ColumnTexts.{aligned_line}
use Rattle.replica_reports.proofs.columns_text.push_lines.Given as goal

abbrev pub invariant-loop-line : goal.invariant-loop-line
invariant-loop-line l = l.out.items ≡ l.initial.out.items ++ flat_map (aligned_line l.widths) (take l.line-index l.lines)
