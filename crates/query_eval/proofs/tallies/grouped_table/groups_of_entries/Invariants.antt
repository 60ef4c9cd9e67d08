-- The groups of the entries so far are finished.
use Rattle.std.proofs.Common.{◌≡◌, ℕ, List, map}
use Rattle.std.specs.Map.{keys_of}
use Rattle.table_model.specs.Group.{group_at}
use Rattle.table_model.specs.State.{Cells}
use Rattle.table_model.specs.Table.{Table}
use Rattle.query_eval.specs.Finished.{finished_of}
use Rattle.query_eval.specs.Grouping.{AreGroups}
use Rattle.query_eval.specs.Kept.{AreFew}
use Rattle.query_eval.proofs.tallies.grouped_table.groups_of_entries.Given as goal

abbrev pub invariant-loop-key : goal.invariant-loop-key
invariant-loop-key l = (table : Table) (by : List ℕ) (rows : List Cells) → AreFew table rows → AreGroups by l.aggregates rows l.fn.entries.items l.tallies
    → l.finished.items ≡ map (λ key. finished_of l.aggregates (group_at by rows key)) (keys_of l.yielded)
