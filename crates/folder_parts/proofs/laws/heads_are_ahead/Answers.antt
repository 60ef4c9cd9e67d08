-- No head is longer than the first bytes that are read of a part.
use Rattle.folder_parts.proofs.HeadLengths as lengths
use Rattle.folder_parts.proofs.laws.heads_are_ahead.Goals as goal

pub returns : goal.returns
returns c = lengths.heads_are_ahead
