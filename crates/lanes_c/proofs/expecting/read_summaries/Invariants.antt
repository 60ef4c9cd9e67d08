-- The summaries before this one were read, and the rest has those from it on.
use Rattle.lanes_c.proofs.Expectations.{AreReadTo}
use Rattle.lanes_c.proofs.expecting.read_summaries.Given as goal

abbrev pub invariant-loop-index : goal.invariant-loop-index
invariant-loop-index l = AreReadTo l.lengths l.summaries l.index l.read.items l.rest
