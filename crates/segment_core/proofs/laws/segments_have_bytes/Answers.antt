use Rattle.segment_core.proofs.ValidLemmas.{columns_valid}
use Rattle.segment_core.proofs.laws.segments_have_bytes.Goals as goal

pub returns : goal.returns
returns c = columns_valid
