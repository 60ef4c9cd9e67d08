-- What `partition_point` says, since ranges that rise begin in ascending order.
use Rattle.std.proofs.Common.{leb, rules, arith}
use Rattle.std.proofs.lemmas.Bool.{leb-true, leb-false}
use Rattle.std.proofs.lemmas.List.Sorted.{IsPartitionedBy-leb, IsPartitionPoint-from_clause}
use Rattle.catalogue_join.proofs.Spans.{in_order_by_low}
use Rattle.catalogue_join.proofs.search.count_begun_by_end.Goals as goal

pub returns : goal.returns
returns g c =
    let shape = g.S.Span.shape in
    let ranges = c.args.ranges.now in
    let high = shape.high c.args.range in
    let point = IsPartitionPoint-from_clause (λ y. leb (shape.low y) high) ranges c.partition_point.result c.partition_point.ensures.partitioned (IsPartitionedBy-leb shape.low ranges high (in_order_by_low shape ranges c.requires)) (λ a r f' called. search rules) in
    record {
      within = c.partition_point.ensures.bound;
      reached = λ k d less. leb-true (shape.low _) high (point.0 k d (omega arith) less);
      later = λ k d from bound. leb-false (shape.low _) high (point.1 k d from bound);
    }
