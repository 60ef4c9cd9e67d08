-- Consecutive names are in order, and proper where the first is.
use Rattle.std.proofs.Common.{◌∙◌, ◌==◌, List, length, ap, sym}
use Rattle.segment_core.specs.Segment.{SegmentForm}
use Rattle.replica_changes.proofs.LoadedBatches.{numbers_fit, load_offered_as, load_named_as}
use Rattle.replica_changes.proofs.load.Load.into_entries.Goals as goal

pub name_all-requires : goal.name_all-requires
name_all-requires c =
    numbers_fit c.args.first c.args.self c.self.inside.schema c.self.inside.segments.items c.self.view_is c.requires (ap (λ (xs : List SegmentForm). length xs == 0) (sym c.as_slice.ensures.value) ∙ sym c.is_empty.ensures ∙ c.if-is_empty.false)

pub returns-clause-offered : goal.returns-clause-offered
returns-clause-offered c =
    load_offered_as c.args.first c.args.self c.self.inside.schema c.self.inside.segments.items c.in_ok-entries.entries.items c.self.view_is c.requires c.self.invariant c.in_ok-entries.ensures

pub returns-clause-named : goal.returns-clause-named
returns-clause-named c =
    load_named_as c.args.first c.args.self c.self.inside.schema c.self.inside.segments.items c.in_ok-entries.entries.items c.self.view_is c.in_ok-entries.ensures
