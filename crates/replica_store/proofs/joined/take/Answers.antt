-- What comes to the second comes to the join.
use Rattle.std.proofs.Common.{sym, ap, ◌∙◌}
use Rattle.table_model.specs.State.{union_of}
use Rattle.replica_store.specs.Joined.{joined_stores}
use Rattle.replica_store.specs.Replica.{merged}
use Rattle.replica_store.proofs.JoinedStores.{joined_next, union-associative, levelled_reads, levelled_segments}
use Rattle.replica_store.proofs.joined.take.Goals as goal

pub invariant_of-joined : goal.invariant_of-joined
invariant_of-joined c =
    let both = joined_next c.args.base c.args.recent c.args.other c.join.new.self c.requires.joined c.requires.can.first c.requires.can.second c.requires.can.limit c.in_ok-join.ensures.replica in both.0

pub returns-then-is_uneven-clause-value : goal.returns-then-is_uneven-clause-value
returns-then-is_uneven-clause-value c =
    let both = joined_next c.args.base c.args.recent c.args.other c.join.new.self c.requires.joined c.requires.can.first c.requires.can.second c.requires.can.limit c.in_ok-join.ensures.replica in
    levelled_reads c.levelled.result (joined_stores c.args.base c.join.new.self) (merged (joined_stores c.args.base c.args.recent).replica c.args.other.replica) c.levelled.ensures both.1

pub returns-then-is_uneven-clause-segments : goal.returns-then-is_uneven-clause-segments
returns-then-is_uneven-clause-segments c =
    levelled_segments c.levelled.result (joined_stores c.args.base c.join.new.self) (union_of (union_of c.args.base.segments c.args.recent.segments) c.args.other.segments) c.levelled.ensures
    (ap (union_of c.args.base.segments) c.in_ok-join.ensures.segments ∙ sym (union-associative c.args.base.segments c.args.recent.segments c.args.other.segments))

pub returns-else-is_uneven-clause-value : goal.returns-else-is_uneven-clause-value
returns-else-is_uneven-clause-value c =
    let both = joined_next c.args.base c.args.recent c.args.other c.join.new.self c.requires.joined c.requires.can.first c.requires.can.second c.requires.can.limit c.in_ok-join.ensures.replica in both.1

pub returns-else-is_uneven-clause-segments : goal.returns-else-is_uneven-clause-segments
returns-else-is_uneven-clause-segments c = ap (union_of c.args.base.segments) c.in_ok-join.ensures.segments ∙ sym (union-associative c.args.base.segments c.args.recent.segments c.args.other.segments)
