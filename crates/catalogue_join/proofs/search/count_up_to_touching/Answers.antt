-- What `partition_point` says, since the ranges before which one does not end apart come first.
use Rattle.std.proofs.Common.{◌+◌, not, rules, arith}
use Rattle.std.proofs.lemmas.Bool.{ltb-true, ltb-false, not-true, not-false}
use Rattle.std.proofs.lemmas.List.Sorted.{IsPartitionPoint-from_clause}
use Rattle.catalogue_join.specs.Span.{apart}
use Rattle.catalogue_join.proofs.Spans.{begun_first}
use Rattle.catalogue_join.proofs.search.count_up_to_touching.Goals as goal

pub returns : goal.returns
returns g c =
    let shape = g.S.Span.shape in
    let ranges = c.args.ranges.now in
    let range = c.args.range in
    let point = IsPartitionPoint-from_clause (λ y. not (apart shape range y)) ranges c.partition_point.result c.partition_point.ensures.partitioned (begun_first shape ranges range c.requires) (λ a r f' called. search rules) in
    record {
      within = c.partition_point.ensures.bound;
      begun = λ k d less. ltb-false (shape.high range + 1) (shape.low _) (not-true (apart shape range _) (point.0 k d (omega arith) less));
      later = λ k d from bound. ltb-true (shape.high range + 1) (shape.low _) (not-false (apart shape range _) (point.1 k d from bound));
    }
