-- The lemma of that name.
use Rattle.frame_delta.proofs.FrameLemmas.{least_frame_is_a_form}
use Rattle.frame_delta.proofs.laws.least_frame_is_a_form.Goals as goal

pub returns : goal.returns
returns c = least_frame_is_a_form
