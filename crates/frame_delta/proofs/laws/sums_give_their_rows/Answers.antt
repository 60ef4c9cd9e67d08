-- The lemma of that name.
use Rattle.frame_delta.proofs.DeltaLemmas.{sums_give_their_rows}
use Rattle.frame_delta.proofs.laws.sums_give_their_rows.Goals as goal

pub returns : goal.returns
returns c = sums_give_their_rows
