-- The slices so far are counted.
use Rattle.std.proofs.Common.{◌≡◌, ◌<◌, ◌++◌, ℕ, List, length, get_or, take}
use Rattle.table_model.specs.State.{Cells}
use Rattle.query_eval.specs.Grouping.{AreNulls, IsHeld}
use Rattle.query_eval.specs.Slices.{rows_sliced}
use Rattle.query_eval.specs.TallyKinds.{aggregate_kind}
use Rattle.query_eval.specs.Vector.{Vector}
use Rattle.query_eval.specs.declared.tallies.aggregate.Aggregate.{Aggregate}
use Rattle.query_eval.specs.declared.tallies.tally.Tally.{Tally}
use Rattle.query_eval.specs.declared.tallies.tally.TallyKind.TheVariants as kinds
use Rattle.query_eval.proofs.tallies.slice_tallies.count_slices.Given as goal

abbrev pub invariant-loop-slice : goal.invariant-loop-slice
invariant-loop-slice l = record {
  size : length l.tallies.items ≡ length l.initial.tallies.items;
  held : (a : Aggregate) (v : Vector) → aggregate_kind a ≡ kinds.Count → AreNulls a v l.nulls → (g : ℕ) (t : Tally) (taken : List Cells) → g < length l.initial.tallies.items → IsHeld taken a (get_or l.initial.tallies.items g t) → IsHeld (taken ++ rows_sliced v (take l.slice-index l.slices) g) a (get_or l.tallies.items g t);
}
