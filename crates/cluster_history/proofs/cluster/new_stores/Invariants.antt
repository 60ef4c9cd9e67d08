-- The stores so far are new ones, and hold nothing.
use Rattle.std.proofs.Common.{◌≡◌}
use Rattle.cluster_history.specs.Cluster.{new_replicas, replicas_in}
use Rattle.cluster_history.specs.Segments.{new_segments, segments_in}
use Rattle.cluster_history.proofs.cluster.new_stores.Given as goal

abbrev pub invariant-loop-i : goal.invariant-loop-i
invariant-loop-i l = record {
  replicas : replicas_in l.stores.items ≡ new_replicas l.schema 1 l.i;
  segments : segments_in l.stores.items ≡ (new_segments l.i).stores;
}
