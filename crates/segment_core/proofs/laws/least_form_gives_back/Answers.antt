-- Each of the four codings gives back its values.
use Rattle.segment_core.proofs.CodedLemmas.{values_of-least_form}
use Rattle.segment_core.proofs.laws.least_form_gives_back.Goals as goal

pub returns : goal.returns
returns c = values_of-least_form
