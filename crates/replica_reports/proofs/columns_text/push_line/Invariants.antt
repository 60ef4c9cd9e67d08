-- The texts before this column are there.
use Rattle.std.proofs.Common.{◌≡◌, ◌++◌, codes, take}
use Rattle.answer_formats.specs.Formats.{separated, in_columns}
use Rattle.replica_reports.proofs.columns_text.push_line.Given as goal

abbrev pub invariant-loop-column : goal.invariant-loop-column
invariant-loop-column l = l.out.items ≡ l.initial.out.items ++ separated (codes "  ") (take l.column (in_columns l.widths l.line))
