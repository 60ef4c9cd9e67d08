-- Forget, as a command on a replica in a file: the batches of which every row is deleted are dropped.
use Rattle.std.specs.Prelude.{ℕ, List, length, Ok}
use Rattle.table_model.specs.State.{Batch}
use Rattle.table_model.specs.declared.names.BatchName.{BatchName}
use Rattle.replica_store.specs.Forgotten.{forgotten}
use Rattle.replica_store.specs.Forgets.{batches_of, dead_batches, row_count}
use Rattle.replica_store.specs.Replica.{Replica}
use Rattle.replica_changes.specs.Commands.{Made}

-- forget: how many batches are dropped and how many rows they have, and the replica with what is left of its state
abbrev pub forgetting : Replica → Made (ℕ × ℕ)
forgetting r =
    let dead : List (BatchName × Batch) = dead_batches r.state in
    Ok ((length dead, row_count (batches_of dead)), record { schema = r.schema; own = r.own; state = forgotten r.state })
