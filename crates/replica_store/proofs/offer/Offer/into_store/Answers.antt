-- What is offered is what a store may hold.
use Rattle.std.proofs.Common.{arith, sym, subst, List}
use Rattle.std.proofs.lemmas.Bool.Decides.{nat_tests}
use Rattle.std.specs.FinMap as map
use Rattle.table_model.specs.Name.{name_cmp}
use Rattle.segment_core.specs.Segment.{SegmentForm}
use Rattle.replica_store.specs.Replica.{IsWithinLimits}
use Rattle.replica_store.specs.Segments.{Entry, AreStored, rows_in}
use Rattle.replica_store.proofs.Stored.{AreStored-all, IsWithinLimits-offered}
use Rattle.replica_store.proofs.offer.Offer.into_store.Goals as goal

pub from_parts-requires : goal.from_parts-requires
from_parts-requires c =
    let es : List Entry = c.self.inside.entries.items in
    let is = c.in_ok-batches.ensures.segments in
    record {
      sound = record {
        own_proper = grind (arith, nat_tests, c.if-own-eq0.false);
        within = subst (λ (m : map.FinMap name_cmp SegmentForm). IsWithinLimits c.self.inside.schema (rows_in m)) (sym is) (IsWithinLimits-offered c.self.inside.schema es c.self.invariant);
      };
      stored = subst (AreStored c.self.inside.schema) (sym is) (AreStored-all c.self.inside.schema es c.self.invariant.sorted c.self.invariant.stored);
      parted = c.in_ok-batches.ensures.own;
    }
