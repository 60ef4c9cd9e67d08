-- The offers before those that are left were taken.
use Rattle.std.proofs.Common.{length, reverse}
use Rattle.replica_changes.proofs.CommandsBring.{TakenSoFar}
use Rattle.replica_changes.proofs.bringing.take_all.Given as goal

abbrev pub invariant-loop-offer : goal.invariant-loop-offer
invariant-loop-offer l = TakenSoFar l.initial.brought l.brought l.fn.offers.items (reverse l.offers.items)

abbrev pub decreases-loop-offer : goal.decreases-loop-offer
decreases-loop-offer l = length l.offers.items
