-- The cells so far stand in their places, and no later row is null yet.
use Rattle.segment_core.proofs.GatherLemmas.{Gathering}
use Rattle.segment_core.proofs.gather.gather.Given as goal

abbrev pub invariant-loop-row : goal.invariant-loop-row
invariant-loop-row l = Gathering l.cells l.row l.nulls l.values
