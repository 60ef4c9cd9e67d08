-- The slices so far are taken in.
use Rattle.std.proofs.Common.{◌≡◌, ◌<◌, ◌++◌, ℕ, List, length, get_or, take}
use Rattle.table_model.specs.State.{Cells}
use Rattle.query_eval.specs.Grouping.{AreCells, IsHeld}
use Rattle.query_eval.specs.Slices.{rows_sliced}
use Rattle.query_eval.specs.TallyKinds.{aggregate_kind}
use Rattle.query_eval.specs.Vector.{Vector}
use Rattle.query_eval.specs.declared.tallies.aggregate.Aggregate.{Aggregate}
use Rattle.query_eval.specs.declared.tallies.tally.Tally.{Tally}
use Rattle.query_eval.specs.declared.tallies.tally.TallyKind.TheVariants as kinds
use Rattle.query_eval.proofs.tallies.code_tallies.sum_codes.Given as goal

abbrev pub invariant-loop-slice : goal.invariant-loop-slice
invariant-loop-slice l = record {
  size : length l.tallies.items ≡ length l.initial.tallies.items;
  held : (a : Aggregate) (v : Vector) → aggregate_kind a ≡ kinds.Sum → AreCells a v l.nulls l.values → (g : ℕ) (t : Tally) (taken : List Cells) → g < length l.initial.tallies.items → IsHeld taken a (get_or l.initial.tallies.items g t) → IsHeld (taken ++ rows_sliced v (take l.slice-index l.split.slices.items) g) a (get_or l.tallies.items g t);
}
