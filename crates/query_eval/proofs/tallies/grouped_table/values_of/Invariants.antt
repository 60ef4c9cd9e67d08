-- The values of the aggregates so far.
use Rattle.std.proofs.Common.{◌≡◌, List, map, take}
use Rattle.table_model.specs.State.{Cells}
use Rattle.table_model.specs.Table.{Table}
use Rattle.query_eval.specs.Aggregate.{aggregate_value}
use Rattle.query_eval.specs.Grouping.{AreHeld}
use Rattle.query_eval.specs.Kept.{AreFew}
use Rattle.query_eval.proofs.tallies.grouped_table.values_of.Given as goal

abbrev pub invariant-loop-i : goal.invariant-loop-i
invariant-loop-i l = (table : Table) (rows : List Cells) → AreFew table rows → AreHeld rows l.aggregates l.tallies l.place → l.fields.items ≡ map (λ a. aggregate_value a rows) (take l.i l.aggregates)
