-- No name before the number is one of the set.
use Rattle.std.proofs.Common.{◌≡◌, ◌+◌, ◌-◌}
use Rattle.std.specs.FinSet as set
use Rattle.std.specs.List.{filter}
use Rattle.catalogue_join.specs.Run.{names_from, names_of}
use Rattle.partial_answers.specs.Between.{first_of}
use Rattle.partial_answers.proofs.apart.first_in.Given as goal

abbrev pub invariant-loop-number : goal.invariant-loop-number
invariant-loop-number l =
    first_of (filter (set.contains l.held) (names_from l.run.first.origin l.number (l.run.last.0 + 1 - l.number))) ≡ first_of (filter (set.contains l.held) (names_of l.run))

abbrev pub decreases-loop-number : goal.decreases-loop-number
decreases-loop-number l = l.run.last.0 + 1 - l.number
