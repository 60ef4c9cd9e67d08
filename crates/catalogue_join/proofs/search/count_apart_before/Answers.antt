-- What `partition_point` says, since ranges that rise end in ascending order.
use Rattle.std.proofs.Common.{◌+◌, ltb, rules, arith}
use Rattle.std.proofs.lemmas.Bool.{ltb-true, ltb-false}
use Rattle.std.proofs.lemmas.List.Sorted.{IsPartitionedBy-ltb, IsPartitionPoint-from_clause}
use Rattle.catalogue_join.proofs.Spans.{in_order_by_high}
use Rattle.catalogue_join.proofs.search.count_apart_before.Goals as goal

pub returns : goal.returns
returns g c =
    let shape = g.S.Span.shape in
    let ranges = c.args.ranges.now in
    let low = shape.low c.args.range in
    let point = IsPartitionPoint-from_clause (λ y. ltb (shape.high y + 1) low) ranges c.partition_point.result c.partition_point.ensures.partitioned (IsPartitionedBy-ltb (λ y. shape.high y + 1) ranges low (in_order_by_high shape ranges c.requires)) (λ a r f' called. search rules) in
    record {
      within = c.partition_point.ensures.bound;
      before = λ k d less. ltb-true (shape.high _ + 1) low (point.0 k d (omega arith) less);
      later = λ k d from bound. ltb-false (shape.high _ + 1) low (point.1 k d from bound);
    }
