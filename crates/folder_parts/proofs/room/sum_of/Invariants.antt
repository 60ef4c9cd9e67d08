-- The numbers before this one are added up.
use Rattle.folder_parts.proofs.SummedSoFar.{SummedSoFar}
use Rattle.folder_parts.proofs.room.sum_of.Given as goal

abbrev pub invariant-loop-index : goal.invariant-loop-index
invariant-loop-index l = SummedSoFar l.numbers l.index l.total
