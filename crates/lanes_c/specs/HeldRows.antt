-- What the call makes that deletes rows of a batch only if the table has the batch.
use Rattle.std.specs.Prelude.{◌≡◌, ◌⊎◌, ℕ, Bool, cond, MatchOption, Result, Ok}
use Rattle.table_model.specs.Reading.{◌>>=◌}
use Rattle.table_model.specs.declared.names.BatchName.{BatchName}
use Rattle.table_model.specs.declared.names.RowName.{RowName}
use Rattle.table_model.specs.declared.refusal.Refusal.{Refusal}
use Rattle.replica_store.specs.Replica.{Replica, holds}
use Rattle.replica_changes.specs.CommandForms.{DeleteRows}
use Rattle.lanes_c.specs.TableChanges.{with_command}
use Rattle.lanes_c.specs.declared.handle.Table.{Table}

-- how many batches of a name it has
abbrev pub held_count : Replica → BatchName → ℕ
held_count r name = cond (holds r name) 1 0

-- the replica without a range of rows of a batch, or as it is; what the range is refused as is refused in both cases
abbrev pub without_range_if : Bool → RowName → ℕ → Replica → Result Replica Refusal
without_range_if is_held first last r = with_command (DeleteRows first last) r >>= λ x. Ok (cond is_held x r)

-- lanes_table_delete_held_rows: the replica without a range of rows of a batch, if it has the batch
abbrev pub without_held_range : RowName → ℕ → Replica → Result Replica Refusal
without_held_range first last r = without_range_if (holds r first.batch) first last r

-- what is told of a handle: how many batches of that name its table had; none if it is closed
abbrev pub CountsHeld : ℕ → Table → RowName → Type 0
CountsHeld held old first = MatchOption old.replica (held ≡ 0) (λ r. held ≡ held_count r first.batch)
