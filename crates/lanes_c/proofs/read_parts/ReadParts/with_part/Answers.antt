-- A further part is held with those before it.
use Rattle.lanes_c.proofs.PartsFollowing.{next_read}
use Rattle.lanes_c.proofs.read_parts.ReadParts.with_part.Goals as goal

pub invariant_of-result : goal.invariant_of-result
invariant_of-result c =
    next_read c.self.inside.join c.in_ok-next.next c.args.name.now c.args.bytes.now _ _ _ _ c.read.ensures c.in_ok-next.ensures.joined c.self.invariant.0 c.self.invariant.1 c.in_ok-more.ensures
