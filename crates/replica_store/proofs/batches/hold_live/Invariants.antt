-- A name with a live row is among the names so far, or is that of a batch that is left.
use Rattle.std.specs.Prelude.{◌≡◌, ◌||◌, is_some, drop}
use Rattle.std.specs.FinMap as map
use Rattle.std.specs.FinSet as set
use Rattle.table_model.specs.Name.{name_cmp}
use Rattle.table_model.specs.declared.names.BatchName.{BatchName}
use Rattle.replica_store.specs.Forgets.{live_entries}
use Rattle.replica_store.proofs.batches.hold_live.Given as goal

abbrev pub invariant-loop-entry : goal.invariant-loop-entry
invariant-loop-entry l = (q : BatchName) → (set.contains l.held q || is_some (map.find name_cmp q (live_entries l.deleted (drop l.entry-index l.entries)))) ≡ (set.contains l.fn.held q || is_some (map.find name_cmp q (live_entries l.deleted l.entries)))
