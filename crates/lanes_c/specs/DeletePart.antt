-- The part of a delete, and what the call tells that makes it.
use Rattle.std.specs.Prelude.{◌≡◌, ◌==◌, ℕ, cond, List, [], MatchOption, Option, Result, Ok, Err}
use Rattle.table_model.specs.Reading.{◌>>=◌}
use Rattle.table_model.specs.declared.refusal.Refusal.{Refusal}
use Rattle.replica_store.specs.Replica.{Replica}
use Rattle.replica_changes.specs.Brings.{deletes_brought}
use Rattle.replica_changes.specs.Commands.{file_of}
use Rattle.replica_changes.specs.declared.command.Answer.{Answer}
use Rattle.replica_changes.specs.declared.command.Answer.TheVariants as answers
use Rattle.lanes_c.specs.Calls.{Asks}
use Rattle.lanes_c.specs.Rooms.{Given, Tells}
use Rattle.lanes_c.specs.declared.delete_part.DeletePart.{DeletePart}
use Rattle.lanes_c.specs.declared.fault.Fault.{Fault}
use Rattle.lanes_c.specs.declared.fault.Fault.TheVariants.{NotOpen}
use Rattle.lanes_c.specs.declared.fault.Place.{Place}

-- how many rows a delete finds in a replica, and the file of their deletions alone; there is none if no row is found
abbrev pub part_of_delete : List ℕ → Replica → Result (ℕ × List ℕ) Refusal
part_of_delete condition r = deletes_brought condition r >>= λ done. Ok (done.0, cond (done.0 == 0) [] (file_of done.1))

-- how many rows an answer says that were deleted
abbrev pub rows_deleted : Answer → ℕ
rows_deleted (answers.Deleted done) = done.rows
rows_deleted answer = 0

-- what was made of a delete, or why not
abbrev pub Deleted : Type 0
Deleted = Result (ℕ × List ℕ) Fault

-- the same of what is in memory
abbrev pub part_by : Result DeletePart Fault → Deleted
part_by (Ok part) = Ok (part.rows, part.bytes.items)
part_by (Err fault) = Err fault

-- its bytes
abbrev pub bytes_in : Deleted → Given
bytes_in (Ok part) = Ok part.1
bytes_in (Err fault) = Err fault

-- how many rows are told
abbrev pub rows_told : Deleted → ℕ
rows_told (Ok part) = part.0
rows_told (Err fault) = 0

-- What a call told that makes such a part.
pub record TellsPart (Means : Deleted → Type 0) (number rows : ℕ) (old new : List ℕ) (length : ℕ) (at : Place) : Type 0 where
  pub given : Deleted
  pub meant : Means given
  pub count : rows ≡ rows_told given
  pub told : Tells (λ bytes. bytes ≡ bytes_in given) number old new length at

-- lanes_table_delete_part: of a closed handle NotOpen is told
abbrev pub DeletesOpen : List ℕ → Option Replica → ℕ → ℕ → List ℕ → List ℕ → ℕ → Place → Type 0
DeletesOpen condition was number rows old new length at =
    MatchOption was (TellsPart (λ given. given ≡ Err NotOpen) number rows old new length at) (λ r. TellsPart (λ given. Asks given condition (part_of_delete condition r)) number rows old new length at)
