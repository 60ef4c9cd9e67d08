-- What is told, and the lines of the batches that are left, are the whole list.
use Rattle.std.proofs.Common.{◌≡◌, ◌++◌, [], drop}
use Rattle.std.specs.List.{flat_map}
use Rattle.replica_reports.specs.Counts.{batch_counts, batch_line, batch_list}
use Rattle.replica_reports.proofs.batch_list.list.Given as goal

abbrev pub invariant-loop-index : goal.invariant-loop-index
invariant-loop-index l = l.out.items ++ flat_map (λ c. batch_line l.form c []) (drop l.index (batch_counts l.store.replica.state)) ≡ batch_list l.form l.store.replica.state
