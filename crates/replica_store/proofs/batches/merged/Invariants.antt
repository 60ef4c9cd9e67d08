-- What is merged so far, before what is left to merge, is all; and there is room for it.
use Rattle.std.proofs.Common.{◌≡◌, ◌+◌, ◌≤◌, ◌++◌, reverse, vec_len, vec_capacity}
use Rattle.table_model.specs.Name.{name_cmp}
use Rattle.replica_store.specs.Entries.{merge}
use Rattle.replica_store.proofs.batches.merged.Given as goal

abbrev pub invariant-loop-next : goal.invariant-loop-next
invariant-loop-next l = record {
  so_far : l.room.items ++ merge name_cmp (reverse l.ours.items) (reverse l.fresh.items) ≡ merge name_cmp l.fn.ours.items l.fn.fresh.items;
  fits : vec_len l.room + (vec_len l.ours + vec_len l.fresh) ≤ vec_capacity l.room;
}

abbrev pub decreases-loop-next : goal.decreases-loop-next
decreases-loop-next l = vec_len l.ours + vec_len l.fresh
