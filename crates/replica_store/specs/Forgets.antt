-- Forget: a store keeps the segments of the batches that have a row that isn't deleted, and all deletions.
use Rattle.std.specs.Prelude.{ℕ, ◌+◌, not, Bool, List, [], ◌∷◌, filter, length, map as each, Result, Ok}
use Rattle.std.specs.FinMap as map
use Rattle.std.specs.FinSet as set
use Rattle.table_model.specs.Name.{row_name_cmp}
use Rattle.table_model.specs.State.{State, Batch}
use Rattle.table_model.specs.declared.names.BatchName.{BatchName}
use Rattle.table_model.specs.declared.refusal.Refusal.{Refusal}
use Rattle.replica_store.specs.Forgotten.{has_live_row, forgotten}
use Rattle.replica_store.specs.Replica.{Replica}
use Rattle.replica_store.specs.Segments.{Entry, Segments}

-- whether a row of the segment's batch isn't deleted
abbrev pub is_live_entry : set.FinSet row_name_cmp → Entry → Bool
is_live_entry deleted e = has_live_row deleted (e.0, e.1.rows)

-- the entries that have a row that isn't deleted
abbrev pub live_entries : set.FinSet row_name_cmp → List Entry → List Entry
live_entries deleted es = filter (is_live_entry deleted) es

-- the segments of batches that have a row that isn't deleted
unfoldable pub live_segments : set.FinSet row_name_cmp → Segments → Segments
live_segments deleted segments = map.from_sorted (live_entries deleted (map.entries segments))

-- forget: the replica has what is left of its state
abbrev pub forgotten_batches : Replica → Result (Unit {0} × Replica) Refusal
forgotten_batches r = Ok (tt, record { schema = r.schema; own = r.own; state = forgotten r.state })

-- how many rows batches have
abbrev pub row_count : List Batch → ℕ
row_count [] = 0
row_count (rows ∷ batches) = length rows + row_count batches

-- the rows of named batches
abbrev pub batches_of : List (BatchName × Batch) → List Batch
batches_of es = each (λ (e : BatchName × Batch). e.1) es

-- the batches of a state of which every row is deleted
abbrev pub dead_batches : State → List (BatchName × Batch)
dead_batches s = filter (λ (e : BatchName × Batch). not (has_live_row s.deleted e)) (map.entries s.batches)
