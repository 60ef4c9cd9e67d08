-- The lemma of that name.
use Rattle.frame_delta.proofs.FrameLemmas.{frame_values-least_frame}
use Rattle.frame_delta.proofs.laws.least_frame_gives_back.Goals as goal

pub returns : goal.returns
returns c = frame_values-least_frame
