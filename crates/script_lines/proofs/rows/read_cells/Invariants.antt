use Rattle.std.proofs.Common.{◌≡◌, length}
use denote.Text.{Utf8}
use denote.Shadow.{shadow}
use Rattle.script_lines.specs.Word.{cells_of}
use Rattle.script_lines.proofs.RowLaws.{after_all}
use Rattle.script_lines.proofs.rows.read_cells.Given as goal

abbrev pub invariant-loop-value : goal.invariant-loop-value
invariant-loop-value l = shadow (Utf8 l.rest) × (after_all l.cells.items (cells_of l.rest) ≡ cells_of l.text)

abbrev pub decreases-loop-value : goal.decreases-loop-value
decreases-loop-value l = length l.rest
