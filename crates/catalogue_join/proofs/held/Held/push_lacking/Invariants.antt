-- What is taken so far, with what is lacked from the number on, is all that is lacked of the run.
use Rattle.std.proofs.Common.{◌≡◌, ◌+◌, ◌-◌, ◌++◌}
use Rattle.std.specs.List.{filter}
use Rattle.catalogue_join.specs.Held.{lacks}
use Rattle.catalogue_join.specs.Run.{names_from, names_of}
use Rattle.catalogue_join.proofs.held.Held.push_lacking.Given as goal

abbrev pub invariant-loop-number : goal.invariant-loop-number
invariant-loop-number l =
    l.names.items ++ filter (lacks l.self) (names_from l.run.first.origin l.number (l.run.last.0 + 1 - l.number))
    ≡ l.initial.names.items ++ filter (lacks l.self) (names_of l.run)

abbrev pub decreases-loop-number : goal.decreases-loop-number
decreases-loop-number l = l.run.last.0 + 1 - l.number
