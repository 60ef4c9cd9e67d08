-- The names of a load that has batches fit.
use Rattle.std.proofs.Common.{◌∙◌, ◌+◌, ◌==◌, ◌≤◌, List, ap, length, subst, sym}
use Rattle.segment_core.specs.Segment.{SegmentForm}
use Rattle.replica_changes.proofs.LoadedBatches.{numbers_fit}
use Rattle.replica_changes.proofs.load.Load.deleted_by.Goals as goal

pub count_deleted-requires-clause-names : goal.count_deleted-requires-clause-names
count_deleted-requires-clause-names c =
    let view = c.self.view_is in
    subst (λ (xs : List SegmentForm). c.args.first.number.0 + length xs ≤ 4294967296) (sym c.as_slice-2.ensures.value)
    (numbers_fit c.args.first c.args.self.now c.self.inside.schema c.self.inside.segments.items view c.requires (ap (λ (xs : List SegmentForm). length xs == 0) (sym c.as_slice.ensures.value) ∙ sym c.is_empty.ensures ∙ c.if-is_empty.false))
