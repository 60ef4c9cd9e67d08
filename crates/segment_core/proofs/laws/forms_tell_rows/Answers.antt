-- The first column's vectors tell how many rows there are.
use Rattle.segment_core.proofs.WidthLemmas.{forms_tell_rows}
use Rattle.segment_core.proofs.laws.forms_tell_rows.Goals as goal

pub returns : goal.returns
returns c = forms_tell_rows
