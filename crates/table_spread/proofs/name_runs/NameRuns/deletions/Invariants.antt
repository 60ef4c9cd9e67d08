-- The deletions of the first ranges are kept that name batches which go to the share.
use Rattle.std.specs.Prelude.{◌≡◌, take}
use Rattle.catalogue_join.specs.RowRange.{rows_in}
use Rattle.table_spread.specs.Spread.{goes_to}
use Rattle.table_spread.proofs.Deletions.{ranges_of_names}
use Rattle.table_spread.proofs.name_runs.NameRuns.deletions.Given as goal

abbrev pub invariant-loop-place : goal.invariant-loop-place
invariant-loop-place l = l.kept ≡ rows_in (ranges_of_names (goes_to l.self l.held l.fn.index) (take l.place l.ranges))
