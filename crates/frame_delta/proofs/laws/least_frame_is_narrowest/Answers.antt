-- The lemma of that name.
use Rattle.frame_delta.proofs.LeastFrame.{least_frame_is_narrowest}
use Rattle.frame_delta.proofs.laws.least_frame_is_narrowest.Goals as goal

pub returns : goal.returns
returns c = least_frame_is_narrowest
