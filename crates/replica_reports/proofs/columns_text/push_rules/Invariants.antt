-- The rules before this column are there.
use Rattle.std.proofs.Common.{◌≡◌, ◌++◌, codes, take, map}
use Rattle.answer_formats.specs.Formats.{separated, rule}
use Rattle.replica_reports.proofs.columns_text.push_rules.Given as goal

abbrev pub invariant-loop-column : goal.invariant-loop-column
invariant-loop-column l = l.out.items ≡ l.initial.out.items ++ separated (codes "  ") (take l.column (map rule l.widths))
