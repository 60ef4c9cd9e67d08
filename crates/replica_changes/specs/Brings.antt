-- What a command brings to a replica that is held: joined with it, it is what the command makes of it; put next to it, it is a part.
use Rattle.std.specs.Prelude.{◌≡◌, ◌⊎◌, ℕ, Bool, List, [], ◌∷◌, length, Option, Result, Ok, Err}
use Rattle.table_model.specs.Reading.{◌>>=◌}
use Rattle.table_model.specs.State.{empty_state}
use Rattle.table_model.specs.Table.{Table}
use Rattle.table_model.specs.declared.names.BatchName.{BatchName}
use Rattle.table_model.specs.declared.names.RowName.{RowName}
use Rattle.table_model.specs.declared.refusal.Refusal.{Refusal}
use Rattle.table_model.specs.declared.refusal.Refusal.TheVariants.{Memory}
use Rattle.replica_store.specs.Brought.{IsBrought, unheld_state}
use Rattle.replica_store.specs.Exchange.{OfferForm}
use Rattle.replica_store.specs.Replica.{Replica, SaysChange, deleted_rows, joined_with, with_deleted, with_join}
use Rattle.replica_store.specs.Segments.{StoreForm}
use Rattle.store_view.specs.Asked.{condition_names}
use Rattle.replica_changes.specs.Commands.{Made, applying}
use Rattle.replica_changes.specs.Loads.{LoadForm, loaded, chosen_name, importing_as}
use Rattle.replica_changes.specs.declared.importing.Imported.{Imported}

-- the replica of a table without batches and deletions
abbrev pub empty_replica : Table → Replica
empty_replica table = record { schema = table; own = record { 0 = 1 }; state = empty_state }

-- what a replica has in addition to one that is held: the batches whose names aren't held there, and all its deletions
abbrev pub brought_to : Replica → Replica → Replica
brought_to held own = record { schema = held.schema; own = record { 0 = 1 }; state = unheld_state held own.state }

-- the replica that has the states of offers too
abbrev pub with_offers : Replica → List OfferForm → Replica
with_offers r [] = r
with_offers r (offer ∷ offers) = with_offers (joined_with r offer.state) offers

-- what an apply of offers to a replica answers, and what they bring to it: their batches that it does not hold, and their deletions
abbrev pub offers_brought : List OfferForm → Replica → Made (ℕ × ℕ × ℕ)
offers_brought offers held = applying offers held >>= λ done. Ok (done.0, brought_to held (with_offers (empty_replica held.schema) offers))

-- how many rows a delete by a condition finds in a replica, and what it brings to it: their deletions
abbrev pub deletes_brought : List ℕ → Replica → Made ℕ
deletes_brought text held = condition_names text held.schema held.state >>= λ names. Ok (length names, with_deleted (empty_replica held.schema) names)

-- what a delete of a range of rows brings to a replica: their deletions
abbrev pub rows_brought : RowName → ℕ → Replica → Made (Unit {0})
rows_brought first last held = deleted_rows (empty_replica held.schema) first last

-- what an import of a load into a replica answers, and what it brings to it: its batches that the replica does not hold
abbrev pub load_brought : LoadForm → Option BatchName → List ℕ → Replica → Made Imported
load_brought load given words held =
    chosen_name held.state given words (length load.batches) >>= λ name. importing_as load name held >>= λ done. Ok (done.0, brought_to held (loaded held load name))

-- What was brought, joined with what is held, is what the command makes of that, and the answer says exactly whether it is more. No
-- batch that was brought is held.
pub record IsMade {Y : Type 0} (answer : Y) (changed : Bool) (held own : StoreForm) (made : Made Y) : Type 0 where
  pub joined : made ≡ Ok (answer, with_join held.replica own.replica)
  pub more : SaysChange changed held.replica (with_join held.replica own.replica)
  pub brought : IsBrought held own

-- A command on a store that is only read: what it answers and brings is what is given, and joined with what is held, it is what the
-- command makes. Refused, it is refused as the command is, or out of memory.
abbrev pub BringsTo : {X Y : Type 0} → (X → Y) → (X → Bool) → Result (X × StoreForm) Refusal → StoreForm → Made Y → Made Y → Type 0
BringsTo view changed (Ok (x, own)) held brought made = (brought ≡ Ok (view x, own.replica)) × IsMade (view x) (changed x) held own made
BringsTo view changed (Err e) held brought made = ((brought ≡ Err e) × (made ≡ Err e)) ⊎ (e ≡ Memory)
