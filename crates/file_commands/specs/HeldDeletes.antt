-- Deleting rows of a batch only if it is held.
use Rattle.std.specs.Prelude.{ℕ, Bool, true, false, cond, Result, Ok}
use Rattle.table_model.specs.declared.names.RowName.{RowName}
use Rattle.table_model.specs.declared.refusal.Refusal.{Refusal}
use Rattle.catalogue_join.specs.RowRange.{rows_between}
use Rattle.replica_store.specs.Replica.{Replica, delete_fault, holds, unless_fault, with_deleted}

-- the ordinals of a batch from the first's to the last are deleted if the batch is held; and whether it is
abbrev pub deleted_if_held : Replica → RowName → ℕ → Result (Bool × Replica) Refusal
deleted_if_held r first last = unless_fault (delete_fault first last) (cond (holds r first.batch) (Ok (true, with_deleted r (rows_between first last))) (Ok (false, r)))
