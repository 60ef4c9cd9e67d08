use Rattle.std.proofs.Common.{◌≡◌, ◌++◌, codes, take, map}
use Rattle.std.specs.String.{string_bytes}
use Rattle.answer_formats.specs.Formats.{separated, in_columns}
use Rattle.answer_formats.proofs.table_text.write_heading.Given as goal

abbrev pub invariant-loop-column : goal.invariant-loop-column
invariant-loop-column l = l.out.items ≡ l.initial.out.items ++ separated (codes "  ") (take l.column (in_columns l.widths (map string_bytes l.headings)))
