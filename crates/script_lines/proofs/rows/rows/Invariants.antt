use Rattle.std.proofs.Common.{◌≡◌, length}
use denote.Text.{Utf8}
use denote.Shadow.{shadow}
use Rattle.script_lines.specs.Word.{rows_of}
use Rattle.script_lines.proofs.RowLaws.{after_all}
use Rattle.script_lines.proofs.rows.rows.Given as goal

abbrev pub invariant-loop-row : goal.invariant-loop-row
invariant-loop-row l = shadow (Utf8 l.rest) × (after_all l.rows (rows_of l.rest) ≡ rows_of l.text)

abbrev pub decreases-loop-row : goal.decreases-loop-row
decreases-loop-row l = length l.rest
