-- The lemma of that name.
use Rattle.frame_delta.proofs.DeltaLemmas.{deltas_add_up}
use Rattle.frame_delta.proofs.laws.deltas_add_up.Goals as goal

pub returns : goal.returns
returns c = deltas_add_up
