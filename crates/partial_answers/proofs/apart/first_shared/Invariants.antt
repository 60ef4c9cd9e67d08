-- No run before this one has a name of the other set.
use Rattle.std.proofs.Common.{◌≡◌, drop}
use Rattle.std.specs.FinSet as set
use Rattle.std.specs.List.{filter}
use Rattle.catalogue_join.specs.Run.{names_listed}
use Rattle.partial_answers.specs.Between.{first_of}
use Rattle.partial_answers.proofs.apart.first_shared.Given as goal

abbrev pub invariant-loop-run : goal.invariant-loop-run
invariant-loop-run l = first_of (filter (set.contains l.other) (names_listed (drop l.run-index l.run-items))) ≡ first_of (filter (set.contains l.other) (names_listed l.run-items))
