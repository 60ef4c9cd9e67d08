-- The lemma of that name.
use Rattle.frame_delta.proofs.DeltaLemmas.{delta_values-least_delta}
use Rattle.frame_delta.proofs.laws.least_delta_gives_back.Goals as goal

pub returns : goal.returns
returns c = delta_values-least_delta
