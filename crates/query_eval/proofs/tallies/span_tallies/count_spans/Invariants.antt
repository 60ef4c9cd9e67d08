-- The spans so far are counted.
use Rattle.std.proofs.Common.{◌≡◌, length, take}
use Rattle.query_eval.specs.Grouping.{AreNulls, HaveSlices}
use Rattle.query_eval.specs.Slices.{slices_of_spans}
use Rattle.query_eval.specs.TallyKinds.{aggregate_kind}
use Rattle.query_eval.specs.Vector.{Vector}
use Rattle.query_eval.specs.declared.tallies.aggregate.Aggregate.{Aggregate}
use Rattle.query_eval.specs.declared.tallies.tally.TallyKind.TheVariants as kinds
use Rattle.query_eval.proofs.tallies.span_tallies.count_spans.Given as goal

abbrev pub invariant-loop-covered : goal.invariant-loop-covered
invariant-loop-covered l = record {
  size : length l.tallies.items ≡ length l.initial.tallies.items;
  held : (a : Aggregate) (v : Vector) → aggregate_kind a ≡ kinds.Count → AreNulls a v l.nulls → HaveSlices a v (take l.covered-index (slices_of_spans l.kept l.spans)) l.initial.tallies.items l.tallies.items;
}
