-- What was put into a folder is in what is answered of it later.
use Rattle.std.specs.Prelude.{◌≡◌, ℕ, true, List, [], ◌++◌, Ok}
use Rattle.table_model.specs.Operation.{Operation, AreAgreeing, state_of}
use Rattle.table_model.specs.Table.{Table}
use Rattle.answer_formats.specs.declared.format.Format.{Format}
use Rattle.folder_model.specs.Turn.{Gave, IsGone, listing_of}
use Rattle.folder_model.specs.World.{World}
use Rattle.folder_model.specs.Run.{Event, Run, BeforeListing, HasPut}
use Rattle.folder_model.specs.Laws.{IsFair}
use Rattle.replica_store.specs.Forgotten.{IsRestOf}
use Rattle.replica_store.specs.Replica.{Replica}
use Rattle.store_view.specs.Asked.{condition_names}
use Rattle.replica_reports.specs.Asking.{answered_in}
use Rattle.replica_reports.specs.Held.{held_in}
use Rattle.replica_changes.specs.ForgetFileLaws.{StandsFor}
use Rattle.folder_parts.specs.Covers.{covers_found, folder_parts}
use Rattle.folder_commands.specs.Joined.{AreRead}

-- At a moment of a run a process has been given these names by its last listing, and has read under each of them that is a part's, as
-- `read_folder` says if no name is passed over; and what it has read holds this together.
pub record IsAnswered (events : List Event) (d e : World) (run : Run folder_parts events d e) (process : ℕ) (names : List (List ℕ)) (whole : Replica) : Type 0 where
  pub fair : IsFair folder_parts events d e run
  pub listed : listing_of (e.calls process) ≡ Gave names
  pub parts : AreRead [] names whole (e.calls process)

-- It has all that any process had put at any moment before that listing.
abbrev pub PutIsAnswered : Type 0
PutIsAnswered =
    (events : List Event) (d e : World) (run : Run folder_parts events d e) (process : ℕ) (names : List (List ℕ)) (whole : Replica) → IsAnswered events d e run process names whole →
    (bytes : List ℕ) → BeforeListing (HasPut folder_parts bytes) process folder_parts events d e run → covers_found (Ok whole) (held_in bytes) ≡ true

-- And all that any process had read, and then found gone or replaced, and had synced the folder after that.
abbrev pub GoneIsAnswered : Type 0
GoneIsAnswered =
    (events : List Event) (d e : World) (run : Run folder_parts events d e) (process : ℕ) (names : List (List ℕ)) (whole : Replica) → IsAnswered events d e run process names whole →
    (bytes : List ℕ) → BeforeListing (λ w. (other : ℕ) × IsGone folder_parts bytes (w.calls other)) process folder_parts events d e run → covers_found (Ok whole) (held_in bytes) ≡ true

-- A replica represents operations of a table, of which only the members matter: no name has two lists of rows, and it has what is left of the state that
-- they make, where some batches of which every row is deleted were dropped.
pub record Represents (r : Replica) (table : Table) (ops : List Operation) : Type 0 where
  pub agree : AreAgreeing ops
  pub schema : r.schema ≡ table
  pub rest : IsRestOf r.state (state_of ops)

-- What has all that a file has represents all that the file represents, too, if names agree over both.
abbrev pub HadIsRepresented : Type 0
HadIsRepresented =
    (whole : Replica) (bytes : List ℕ) → covers_found (Ok whole) (held_in bytes) ≡ true →
    (table : Table) (ops more : List Operation) → Represents whole table ops → StandsFor bytes table more → AreAgreeing (more ++ ops) → Represents whole table (more ++ ops)

-- the replica that has all of some operations
abbrev pub replica_of : Table → List Operation → Replica
replica_of table ops = record { schema = table; own = record { 0 = 1 }; state = state_of ops }

-- What a replica that represents operations is asked: the text of each query is that over all of them, and the rows at which a condition is true are those of
-- all of them.
pub record AnswersAll (r : Replica) (table : Table) (ops : List Operation) : Type 0 where
  pub texts : (format : Format) (sql : List ℕ) → answered_in format r sql ≡ answered_in format (replica_of table ops) sql
  pub finds : (condition : List ℕ) → condition_names condition r.schema r.state ≡ condition_names condition table (state_of ops)

-- From a put to the text of a later query: if a process had put a file, or found gone what it had read and synced the folder, before a listing; and a process
-- has read what this listing gave, and that represents some operations; then it represents those of the file, too, if names agree over both: a
-- query is answered over all of them, and a delete by a condition finds each of their rows at which it is true.
abbrev pub PutIsTold : Type 0
PutIsTold =
    (events : List Event) (d e : World) (run : Run folder_parts events d e) (process : ℕ) (names : List (List ℕ)) (whole : Replica) → IsAnswered events d e run process names whole →
    (bytes : List ℕ) → BeforeListing (HasPut folder_parts bytes) process folder_parts events d e run →
    (table : Table) (ops more : List Operation) → Represents whole table ops → StandsFor bytes table more → AreAgreeing (more ++ ops) → AnswersAll whole table (more ++ ops)

-- the laws of what is answered of a folder
pub record AnsweredLaws : Type 0 where
  pub put : PutIsAnswered
  pub gone : GoneIsAnswered
  pub represents : HadIsRepresented
  pub told : PutIsTold
