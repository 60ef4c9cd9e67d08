-- The names are the batches of the ranges so far that aren't held.
use Rattle.std.specs.Prelude.{◌≡◌, ◌&&◌, not, take}
use Rattle.std.specs.FinSet as set
use Rattle.std.specs.List.{list_any}
use Rattle.table_model.specs.declared.names.BatchName.{BatchName}
use Rattle.partial_commands.specs.StorePartialAnswer.{is_of_batch}
use Rattle.partial_commands.proofs.strays.batches_not_held.Given as goal

abbrev pub invariant-loop-range : goal.invariant-loop-range
invariant-loop-range l = (q : BatchName) → set.contains l.names q ≡ (list_any (is_of_batch q) (take l.range-index l.ranges) && not (set.contains l.held q))
