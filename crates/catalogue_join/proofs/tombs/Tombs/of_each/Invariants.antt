-- The first rows are in the set.
use Rattle.std.proofs.Common.{◌≡◌, take}
use Rattle.std.specs.FinSet as set
use Rattle.catalogue_join.proofs.tombs.Tombs.of_each.Given as goal

abbrev pub invariant-loop-index : goal.invariant-loop-index
invariant-loop-index l = l.tombs ≡ set.from_list (take l.index l.rows)
