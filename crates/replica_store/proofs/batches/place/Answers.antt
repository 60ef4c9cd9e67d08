-- The vector is parted by the test, and the point of parting is the count of what passes.
use Rattle.std.proofs.Common.{rules}
use Rattle.std.proofs.lemmas.List.Sorted.{IsPartitionPoint-from_clause}
use Rattle.table_model.specs.Name.{name_cmp}
use Rattle.table_model.proofs.NameOrder.{names_total}
use Rattle.replica_store.proofs.Places.{place_is, parted, is_below}
use Rattle.replica_store.proofs.batches.place.Goals as goal

pub returns : goal.returns
returns c =
    let facts = c.partition_point.ensures in
    let point = IsPartitionPoint-from_clause (is_below name_cmp c.args.name) c.args.entries.now c.partition_point.result facts.partitioned (parted name_cmp names_total c.args.name c.args.entries.now c.requires) (λ a r f called. search rules) in
    place_is name_cmp c.args.name c.args.entries.now c.partition_point.result facts.bound point.0 point.1
