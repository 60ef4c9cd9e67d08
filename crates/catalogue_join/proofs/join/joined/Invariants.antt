-- What is joined so far, with what the last range and the rest make, is the join of both lists.
use Rattle.std.proofs.Common.{◌≡◌, ◌++◌, length}
use Rattle.catalogue_join.specs.Span.{merge, bridged_from, bridged}
use Rattle.catalogue_join.proofs.join.joined.Given as goal

abbrev pub invariant-loop-next : goal.invariant-loop-next
invariant-loop-next g l = l.joined.items ++ bridged_from g.S.Span.shape l.last l.rest ≡ bridged g.S.Span.shape (merge g.S.Span.shape l.ours l.others)

abbrev pub decreases-loop-next : goal.decreases-loop-next
decreases-loop-next g l = length l.rest
