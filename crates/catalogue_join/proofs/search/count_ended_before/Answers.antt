-- What `partition_point` says, since ranges that rise end in ascending order.
use Rattle.std.proofs.Common.{leb, not, rules, arith}
use Rattle.std.proofs.lemmas.Bool.{leb-true, leb-false, not-true, not-false}
use Rattle.std.proofs.lemmas.List.Sorted.{IsPartitionPoint-from_clause}
use Rattle.catalogue_join.proofs.Spans.{ended_first}
use Rattle.catalogue_join.proofs.search.count_ended_before.Goals as goal

pub returns : goal.returns
returns g c =
    let shape = g.S.Span.shape in
    let ranges = c.args.ranges.now in
    let low = shape.low c.args.range in
    let point = IsPartitionPoint-from_clause (λ y. not (leb low (shape.high y))) ranges c.partition_point.result c.partition_point.ensures.partitioned (ended_first shape ranges low c.requires) (λ a r f' called. search rules) in
    record {
      within = c.partition_point.ensures.bound;
      before = λ k d less. leb-false low (shape.high _) (not-true (leb low (shape.high _)) (point.0 k d (omega arith) less));
      later = λ k d from bound. leb-true low (shape.high _) (not-false (leb low (shape.high _)) (point.1 k d from bound));
    }
