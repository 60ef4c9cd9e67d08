-- The batches are parted by origin, and the last of the first part decides.
use Rattle.std.proofs.Common.{rules, arith}
use Rattle.std.proofs.lemmas.Bool.Decides.{nat_tests}
use Rattle.std.proofs.lemmas.List.Sorted.{IsPartitionPoint-from_clause}
use Rattle.replica_store.proofs.Numbers.{is_up_to, parted_by_origin, none_up_to, last_up_to}
use Rattle.replica_store.proofs.batches.last_number.Goals as goal

pub returns-in-None : goal.returns-in-None
returns-in-None c =
    let facts = c.partition_point.ensures in
    let point = IsPartitionPoint-from_clause (is_up_to c.args.own) c.args.entries.now c.partition_point.result facts.partitioned (parted_by_origin c.args.own c.args.entries.now c.requires) (λ a r f called. search rules) in
    none_up_to c.args.own c.args.entries.now c.split_at.result.0.now c.partition_point.result facts.bound c.split_at.ensures.front c.in-None.ensures.cases point.1

pub returns-then-last-own : goal.returns-then-last-own
returns-then-last-own c =
    let facts = c.partition_point.ensures in
    let point = IsPartitionPoint-from_clause (is_up_to c.args.own) c.args.entries.now c.partition_point.result facts.partitioned (parted_by_origin c.args.own c.args.entries.now c.requires) (λ a r f called. search rules) in
    let is = last_up_to c.args.own c.args.entries.now c.split_at.result.0.now _ c.in-Some.last.now c.partition_point.result c.requires facts.bound c.split_at.ensures.front c.in-Some.ensures.cases.0 point.0 point.1 in
    grind (arith, nat_tests, is)

pub returns-else-last-own : goal.returns-else-last-own
returns-else-last-own c =
    let facts = c.partition_point.ensures in
    let point = IsPartitionPoint-from_clause (is_up_to c.args.own) c.args.entries.now c.partition_point.result facts.partitioned (parted_by_origin c.args.own c.args.entries.now c.requires) (λ a r f called. search rules) in
    let is = last_up_to c.args.own c.args.entries.now c.split_at.result.0.now _ c.in-Some.last.now c.partition_point.result c.requires facts.bound c.split_at.ensures.front c.in-Some.ensures.cases.0 point.0 point.1 in
    grind (arith, nat_tests, is)
