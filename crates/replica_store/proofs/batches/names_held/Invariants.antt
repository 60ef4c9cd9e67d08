-- A name of the batches is among the names so far, or is that of a batch that is left.
use Rattle.std.specs.Prelude.{◌≡◌, ◌||◌, is_some, drop}
use Rattle.std.specs.FinMap as map
use Rattle.std.specs.FinSet as set
use Rattle.table_model.specs.Name.{name_cmp}
use Rattle.table_model.specs.declared.names.BatchName.{BatchName}
use Rattle.replica_store.proofs.batches.names_held.Given as goal

abbrev pub invariant-loop-name : goal.invariant-loop-name
invariant-loop-name l = (q : BatchName) → (set.contains l.names q || is_some (map.find name_cmp q (drop l.name-index l.batches))) ≡ is_some (map.find name_cmp q l.batches)
