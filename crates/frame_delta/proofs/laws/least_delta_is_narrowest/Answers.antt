-- The lemma of that name.
use Rattle.frame_delta.proofs.LeastDelta.{least_delta_is_narrowest}
use Rattle.frame_delta.proofs.laws.least_delta_is_narrowest.Goals as goal

pub returns : goal.returns
returns c = least_delta_is_narrowest
