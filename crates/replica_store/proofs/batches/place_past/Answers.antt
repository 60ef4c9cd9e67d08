-- The batches are parted by origin, where the point of parting is.
use Rattle.std.proofs.Common.{rules}
use Rattle.std.proofs.lemmas.List.Sorted.{IsPartitionPoint-from_clause}
use Rattle.replica_store.proofs.InParts.{parted-at}
use Rattle.replica_store.proofs.Numbers.{is_up_to, parted_by_origin}
use Rattle.replica_store.proofs.batches.place_past.Goals as goal

pub returns-clause-parted : goal.returns-clause-parted
returns-clause-parted c =
    let facts = c.partition_point.ensures in
    let point = IsPartitionPoint-from_clause (is_up_to c.args.own) c.args.entries.now c.partition_point.result facts.partitioned (parted_by_origin c.args.own c.args.entries.now c.requires) (λ a r f called. search rules) in
    parted-at c.args.own c.args.entries.now c.partition_point.result facts.bound point.0 point.1
