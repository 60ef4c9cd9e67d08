use Rattle.std.proofs.Common.{◌≡◌, take}
use Rattle.catalogue_join.specs.RowRange.{rows_in}
use Rattle.column_file.proofs.ranges.tombs_of.Given as goal

abbrev pub invariant-loop-index : goal.invariant-loop-index
invariant-loop-index l = l.tombs ≡ rows_in (take l.index l.deleted)
