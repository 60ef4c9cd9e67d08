-- The lemma of that name.
use Rattle.frame_delta.proofs.ExtremeLemmas.{greatest_among_is_greatest}
use Rattle.frame_delta.proofs.laws.greatest_among_is_greatest.Goals as goal

pub returns : goal.returns
returns c = greatest_among_is_greatest
