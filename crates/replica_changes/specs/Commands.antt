-- What a command makes of a replica in a file, and what a call says that does so over a reader and a writer.
use Rattle.std.specs.Prelude.{◌≡◌, ◌⊎◌, ℕ, ◌-◌, Bool, true, false, List, [], ◌∷◌, length, Option, Some, None, Result, Ok, Err}
use Rattle.std.specs.FinMap as map
use Rattle.std.specs.Io.KnownBytes.{Appends}
use Rattle.table_model.specs.Faults.{AppendsFront}
use Rattle.table_model.specs.Reading.{◌>>=◌}
use Rattle.table_model.specs.declared.refusal.Refusal.{Refusal}
use Rattle.table_model.specs.declared.refusal.Refusal.TheVariants.{Memory, WriteFault}
use Rattle.table_model.specs.Table.{Table, schema_of}
use Rattle.table_model.specs.declared.schema.ColType.{ColType}
use Rattle.table_model.specs.State.{empty_state}
use Rattle.replica_store.specs.Exchange.{OfferForm, SummaryForm, applied, offered}
use Rattle.replica_store.specs.Replica.{Replica, with_deleted, merged, SaysChange}
use Rattle.store_view.specs.Asked.{condition_names}
use Rattle.column_file.specs.Files.{canonical_file, ranges_of, offer_bytes, offer_read}
use Rattle.column_file.specs.Input.{IsUnread}
use Rattle.replica_reports.specs.Held.{held_in}

-- the schema of the table that a file's bytes hold, or their first fault
abbrev pub schema_in : List ℕ → Result Table Refusal
schema_in input = held_in input >>= λ r. Ok r.schema

-- the canonical file of what a replica holds
abbrev pub file_of : Replica → List ℕ
file_of r = canonical_file r.schema r.state

-- the replica that is read of the file of a replica
abbrev pub as_held : Replica → Replica
as_held r = record { schema = r.schema; own = record { 0 = 1 }; state = r.state }

-- what a command answers, and the replica that its file holds then, or the refusal
abbrev pub Made : Type 0 → Type 0
Made Y = Result (Y × Replica) Refusal

-- the file that is to be written
abbrev pub file_made : {Y : Type 0} → Made Y → Result (List ℕ) Refusal
file_made (Ok made) = Ok (file_of made.1)
file_made (Err e) = Err e

-- a front of what is to be written was written, if there is such
abbrev pub WritesFront : Option (List ℕ) → Option (List ℕ) → Result (List ℕ) Refusal → Type 0
WritesFront before now (Ok bytes) = AppendsFront before now bytes
WritesFront before now (Err e) = ⊥

-- A refused call: nothing was written, and the refusal is the one that is given, or out of memory or a failed read; or a write
-- failed after a front of what is to be written.
abbrev pub Refuses : Refusal → Option (List ℕ) → Option (List ℕ) → Result (List ℕ) Refusal → Type 0
Refuses e before now written = ((now ≡ before) × ((written ≡ Err e) ⊎ IsUnread e)) ⊎ ((e ≡ WriteFault) × WritesFront before now written)

-- What a file holds after a call is this: it was written whole, where something changed; else the file is so already, and nothing
-- was written.
abbrev pub Leaves : Bool → List ℕ → Option (List ℕ) → Option (List ℕ) → List ℕ → Type 0
Leaves true input before now file = Appends before now file
Leaves false input before now file = (now ≡ before) × (input ≡ file)

-- A call that changes a file: what was read is the canonical file of a table and a state, what is answered is what the command
-- makes of them, and the file is left as the canonical file of what it makes, which is read as that. The answer says exactly whether
-- what the file holds changed. Nothing is said where the reader doesn't tell its bytes.
abbrev pub Changes : {X Y : Type 0} → (X → Y) → (X → Bool) → Result X Refusal → Option (List ℕ) → Option (List ℕ) → Option (List ℕ) → (Replica → Made Y) → Type 0
Changes view changed result None before now command = Unit {0}
Changes view changed (Ok x) (Some input) before now command =
    (old new : Replica) × (input ≡ file_of old) × (held_in input ≡ Ok old) × (command old ≡ Ok (view x, new)) ×
    Leaves (changed x) input before now (file_of new) × (held_in (file_of new) ≡ Ok (as_held new)) × SaysChange (changed x) old new
Changes view changed (Err e) (Some input) before now command = Refuses e before now (file_made (held_in input >>= command))

-- A command on a store: what it answers and makes of the replica is what is given, and it says exactly whether the replica changed;
-- Memory may come in the place of anything.
abbrev pub Makes : {X Y : Type 0} → (X → Y) → (X → Bool) → Replica → Result X Refusal → Replica → Made Y → Type 0
Makes view changed old (Ok x) new made = (made ≡ Ok (view x, new)) × SaysChange (changed x) old new
Makes view changed old (Err e) new made = (made ≡ Err e) ⊎ (e ≡ Memory)

-- A replica's file was written where something changed, and else nothing; refused as out of memory before anything was written, or
-- for a failed write after a front. What was written is read as the replica.
abbrev pub Puts : Bool → Result (Unit {0}) Refusal → Option (List ℕ) → Option (List ℕ) → Replica → Type 0
Puts true (Ok done) before now r = Appends before now (file_of r) × (held_in (file_of r) ≡ Ok (as_held r))
Puts true (Err e) before now r = ((e ≡ Memory) × (now ≡ before)) ⊎ ((e ≡ WriteFault) × AppendsFront before now (file_of r))
Puts false (Ok done) before now r = now ≡ before
Puts false (Err e) before now r = ⊥

-- ---- the commands

-- a file that is made: the canonical file of the empty table, or its refusal
abbrev pub CreatesOf : Result (Unit {0}) Refusal → Option (List ℕ) → Option (List ℕ) → Result Table Refusal → Type 0
CreatesOf (Ok done) before now made = (table : Table) × (made ≡ Ok table) × Appends before now (canonical_file table empty_state)
CreatesOf (Err e) before now made =
    ((now ≡ before) × ((made ≡ Err e) ⊎ (e ≡ Memory))) ⊎ ((e ≡ WriteFault) × ((table : Table) × (made ≡ Ok table) × AppendsFront before now (canonical_file table empty_state)))

-- the same of the table of a name and columns
abbrev pub Creates : Result (Unit {0}) Refusal → Option (List ℕ) → Option (List ℕ) → List ℕ → List (List ℕ × ColType) → Type 0
Creates result before now table columns = CreatesOf result before now (schema_of table columns)

-- delete: how many rows aren't deleted and have the condition that a text is true, and the replica with them deleted
abbrev pub deleting : List ℕ → Replica → Made ℕ
deleting text r = condition_names text r.schema r.state >>= λ names. Ok (length names, with_deleted r names)

-- apply: the offers are applied one after another
abbrev pub applied_all : Replica → List OfferForm → Made (Unit {0})
applied_all r [] = Ok (tt, r)
applied_all r (offer ∷ offers) = applied r offer >>= λ done. applied_all done.1 offers

-- and how many batches and maximal ranges of deleted rows there are then, and how many of the batches weren't there before
abbrev pub applying : List OfferForm → Replica → Made (ℕ × ℕ × ℕ)
applying offers r = applied_all r offers >>= λ done.
    Ok ((map.len done.1.state.batches, length (ranges_of done.1.state.deleted), map.len done.1.state.batches - map.len r.state.batches), done.1)

-- merge: what files hold is merged into a replica, file by file
abbrev pub merged_with : Replica → List (List ℕ) → Result Replica Refusal
merged_with r [] = Ok r
merged_with r (input ∷ inputs) = held_in input >>= λ other. merged r other >>= λ done. merged_with done.1 inputs

-- the replica that has what all of some files hold
abbrev pub merged_files : List ℕ → List (List ℕ) → Result Replica Refusal
merged_files first others = held_in first >>= λ r. merged_with r others

-- What files hold was merged into a replica, one file or all, and what was returned, seen by view, is what came of it; Memory and
-- ReadFault may come in the place of anything.
abbrev pub MergesInto : {X : Type 0} → (X → Replica) → Result X Refusal → Result Replica Refusal → Type 0
MergesInto view (Ok x) made = made ≡ Ok (view x)
MergesInto view (Err e) made = (made ≡ Err e) ⊎ IsUnread e

-- one file
abbrev pub Merging : {X : Type 0} → (X → Replica) → Result X Refusal → Option (List ℕ) → Replica → Type 0
Merging view result None old = Unit {0}
Merging view result (Some input) old = MergesInto view result (merged_with old (input ∷ []))

-- some files
abbrev pub MergesAll : {X : Type 0} → (X → Replica) → Result X Refusal → Replica → List (List ℕ) → Type 0
MergesAll view result old inputs = MergesInto view result (merged_with old inputs)

-- the file of a replica that was made
abbrev pub written_of : Result Replica Refusal → Result (List ℕ) Refusal
written_of (Ok r) = Ok (file_of r)
written_of (Err e) = Err e

-- What was written is the canonical file of what all of some files hold, and it is read as that.
abbrev pub Merges : Result (Unit {0}) Refusal → Option (List ℕ) → Option (List ℕ) → List ℕ → List (List ℕ) → Type 0
Merges (Ok done) before now first others = (new : Replica) × (merged_files first others ≡ Ok new) × Appends before now (file_of new) × (held_in (file_of new) ≡ Ok (as_held new))
Merges (Err e) before now first others = Refuses e before now (written_of (merged_files first others))

-- What was written is an offer of a replica to a summary: it is read as an offer of the state that is offered.
abbrev pub OffersTo : Replica → SummaryForm → OfferForm → Type 0
OffersTo r summary o = (o.schema ≡ r.schema) × (offered r summary ≡ Ok o.state) × (offer_read (offer_bytes o) ≡ Ok o)
