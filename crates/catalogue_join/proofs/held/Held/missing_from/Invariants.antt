-- So far the names of the runs so far that the other set lacks.
use Rattle.std.proofs.Common.{◌≡◌, take}
use Rattle.std.specs.List.{filter}
use Rattle.catalogue_join.specs.Held.{lacks}
use Rattle.catalogue_join.specs.Run.{names_listed}
use Rattle.catalogue_join.proofs.held.Held.missing_from.Given as goal

abbrev pub invariant-loop-run : goal.invariant-loop-run
invariant-loop-run l = l.missing.items ≡ filter (lacks l.other) (names_listed (take l.run-index l.run-items))
