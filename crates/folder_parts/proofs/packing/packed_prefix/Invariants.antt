-- The sum of the sizes so far, and the packed prefix of them.
use Rattle.folder_parts.proofs.PackedSoFar.{PackedSoFar}
use Rattle.folder_parts.proofs.packing.packed_prefix.Given as goal

abbrev pub invariant-loop-index : goal.invariant-loop-index
invariant-loop-index l = PackedSoFar l.sizes l.index l.count l.before
