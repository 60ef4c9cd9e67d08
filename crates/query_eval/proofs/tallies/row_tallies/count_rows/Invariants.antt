-- The rows so far are taken in.
use Rattle.std.proofs.Common.{◌≡◌, ◌<◌, ◌++◌, ℕ, Bool, List, length, get_or}
use Rattle.table_model.specs.State.{Cells}
use Rattle.query_eval.specs.Grouping.{AreCounted, IsHeld}
use Rattle.query_eval.specs.TallyKinds.{aggregate_kind}
use Rattle.query_eval.specs.declared.tallies.tally.TallyKind.TheVariants as kinds
use Rattle.query_eval.specs.Places.{rows_placed}
use Rattle.query_eval.specs.Vector.{Vector}
use Rattle.query_eval.specs.declared.tallies.aggregate.Aggregate.{Aggregate}
use Rattle.query_eval.specs.declared.tallies.tally.Tally.{Tally}
use Rattle.query_eval.proofs.tallies.row_tallies.count_rows.Given as goal

abbrev pub invariant-loop-row : goal.invariant-loop-row
invariant-loop-row l = record {
  size : length l.tallies.items ≡ length l.initial.tallies.items;
  held : (a : Aggregate) (v : Vector) (mask : List Bool) → aggregate_kind a ≡ kinds.Count → AreCounted a v mask l.rows → (g : ℕ) (t : Tally) (taken : List Cells) → g < length l.initial.tallies.items → IsHeld taken a (get_or l.initial.tallies.items g t) → IsHeld (taken ++ rows_placed l.row v mask l.places g) a (get_or l.tallies.items g t);
}
