-- What the calls on a handle tell. A handle is closed, or it is of what a file holds.
use Rattle.std.specs.Prelude.{◌≡◌, ◌⊎◌, ℕ, List, MatchOption, Option, Some, None, Result, Ok, Err}
use Rattle.table_model.specs.Answer.{answer_text}
use Rattle.table_model.specs.Reading.{◌>>=◌}
use Rattle.table_model.specs.declared.refusal.Refusal.{Refusal}
use Rattle.column_file.specs.Input.{IsUnread}
use Rattle.replica_reports.specs.Held.{held_in}
use Rattle.replica_store.specs.Replica.{Replica}
use Rattle.store_view.specs.Asked.{query_answer}
use Rattle.lanes_c.specs.Calls.{Asks, query_of}
use Rattle.lanes_c.specs.Faults.{nowhere, number_of_fault, place_of_fault}
use Rattle.lanes_c.specs.Rooms.{Given, Tells}
use Rattle.lanes_c.specs.declared.fault.Fault.{Fault}
use Rattle.lanes_c.specs.declared.fault.Fault.TheVariants.{Refused, NotOpen}
use Rattle.lanes_c.specs.declared.fault.Place.{Place}
use Rattle.lanes_c.specs.declared.handle.Table.{Table}

-- the handle is open, and has what this file holds
abbrev pub IsOf : Table → List ℕ → Type 0
IsOf table file = MatchOption table.replica ⊥ (λ r. held_in file ≡ Ok r)

-- the text of a query's answer at a replica; at what a file holds it is query_of the file
abbrev pub answered_at : Replica → List ℕ → Result (List ℕ) Refusal
answered_at r sql = query_answer sql r.schema r.state >>= λ answer. Ok (answer_text answer)

-- why a file isn't opened: its first fault; out of memory and ReadFault may come in the place of anything
abbrev pub IsWhyNotOpened : Fault → List ℕ → Type 0
IsWhyNotOpened (Refused e) file = (held_in file ≡ Err e) ⊎ IsUnread e
IsWhyNotOpened other file = ⊥

-- a fault is reported by its number and its place
abbrev pub IsToldAs : Fault → ℕ → Place → Type 0
IsToldAs fault number place = (number ≡ number_of_fault fault) × (place ≡ place_of_fault fault)

-- lanes_open: with 0 the handle is of the file; else it is as it was, and the reason is reported
abbrev pub Opens : ℕ → List ℕ → Table → Table → Place → Type 0
Opens number file old new place =
    ((number ≡ 0) × (place ≡ nowhere) × IsOf new file)
    ⊎ ((fault : Fault) × IsWhyNotOpened fault file × IsToldAs fault number place × (new.replica ≡ old.replica))

-- a closed handle is reported, and gives nothing
abbrev pub IsNotOpen : Given → Type 0
IsNotOpen given = given ≡ Err NotOpen

-- lanes_ask: The handle stays as it was. Of a closed one NotOpen is reported. Of an open one that is reported which lanes_query reports of each
-- file that the handle is of.
abbrev pub AsksOpen : ℕ → List ℕ → Table → Table → List ℕ → List ℕ → ℕ → Place → Type 0
AsksOpen number sql old new was room length place =
    (new.replica ≡ old.replica)
    × MatchOption old.replica (Tells IsNotOpen number was room length place)
    (λ _. (file : List ℕ) → IsOf old file → Tells (λ given. Asks given sql (query_of sql file)) number was room length place)

-- lanes_share: The first handle stays as it was. With 0 the second one has what the first has. Else the second one stays as it was too:
-- the first is closed, and NotOpen is reported, or memory runs out.
abbrev pub Shares : ℕ → Table → Table → Table → Table → Type 0
Shares number old new was other =
    (new.replica ≡ old.replica)
    × MatchOption old.replica ((number ≡ 39) × (other.replica ≡ was.replica))
    (λ r. ((number ≡ 0) × (other.replica ≡ Some r)) ⊎ ((number ≡ 1) × (other.replica ≡ was.replica)))

-- lanes_hash_key: The handle stays as it was. With 0 it is open; else it is closed, and NotOpen is reported.
abbrev pub TakesKey : ℕ → Table → Table → Type 0
TakesKey number old new = (new.replica ≡ old.replica) × MatchOption old.replica (number ≡ 39) (λ _. number ≡ 0)

-- lanes_close: the handle is closed
abbrev pub IsClosed : Table → Type 0
IsClosed table = table.replica ≡ None
