-- The copies so far, and those of the batches that are left, are all that come behind what was there.
use Rattle.std.proofs.Common.{◌≡◌, ◌++◌, drop}
use Rattle.replica_store.specs.Replica.{lacked_by}
use Rattle.replica_store.proofs.batches.push_all_lacked.Given as goal

abbrev pub invariant-loop-name : goal.invariant-loop-name
invariant-loop-name l = l.copies.items ++ lacked_by l.names (drop l.name-index l.batches) ≡ l.fn.copies.items ++ lacked_by l.names l.batches
