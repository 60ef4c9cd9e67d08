-- A text is cut where its grammar has a comma or a parenthesis.
use Rattle.script_lines.proofs.Spellings.{rows_are_spelled}
use Rattle.script_lines.proofs.laws.rows_are_read_as_spelled.Goals as goal

pub returns : goal.returns
returns c = rows_are_spelled
