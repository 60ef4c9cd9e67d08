use Rattle.std.proofs.Common.{◌≡◌, take, map}
use Rattle.std.specs.String.{string_bytes}
use Rattle.answer_formats.specs.Formats.{widths_from}
use Rattle.answer_formats.proofs.table_text.widths.Given as goal

abbrev pub invariant-loop-column : goal.invariant-loop-column
invariant-loop-column l = l.widths.items ≡ widths_from 0 (take l.column (map string_bytes l.headings)) l.rows
