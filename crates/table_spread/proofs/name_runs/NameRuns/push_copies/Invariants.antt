-- The copies so far, and those of the batches that are left, are all that come behind what was there.
use Rattle.std.proofs.Common.{◌≡◌, ◌++◌, drop}
use Rattle.std.specs.FinMap.Entries.{where_key}
use Rattle.table_model.specs.Name.{name_cmp}
use Rattle.table_spread.specs.Spread.{is_in_run}
use Rattle.table_spread.proofs.name_runs.NameRuns.push_copies.Given as goal

abbrev pub invariant-loop-name : goal.invariant-loop-name
invariant-loop-name l = l.copies.items ++ where_key name_cmp (is_in_run l.self l.fn.index) (drop l.name-index l.batches) ≡ l.fn.copies.items ++ where_key name_cmp (is_in_run l.self l.fn.index) l.batches
