-- The live rows of the vectors before this one are counted.
use Rattle.std.proofs.Common.{◌≡◌, ◌*◌}
use Rattle.transpose_order.specs.Mask.{count_below}
use Rattle.replica_reports.specs.Counts.{is_live_at}
use Rattle.replica_reports.proofs.batch_counts.live_count.Given as goal

abbrev pub invariant-loop-vector : goal.invariant-loop-vector
invariant-loop-vector l = l.live ≡ count_below (is_live_at l.tombs l.name l.rows) (1024 * l.vector)
