-- The lemma of that name.
use Rattle.frame_delta.proofs.ExtremeLemmas.{least_among_is_least}
use Rattle.frame_delta.proofs.laws.least_among_is_least.Goals as goal

pub returns : goal.returns
returns c = least_among_is_least
