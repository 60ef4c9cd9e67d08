-- The count so far is that of the names of the runs so far.
use Rattle.std.proofs.Common.{◌≡◌, length, take}
use Rattle.catalogue_join.specs.Run.{names_listed}
use Rattle.catalogue_join.proofs.held.Held.len.Given as goal

abbrev pub invariant-loop-run : goal.invariant-loop-run
invariant-loop-run l = l.count ≡ length (names_listed (take l.run-index l.run-items))
