-- What a dump of some rows and columns gives.
use Rattle.std.specs.Prelude.{◌≡◌, ◌⊎◌, ℕ, Bool, List, Result, Ok, Err}
use Rattle.live_columns.specs.Choices.{ChoiceForm, choice_of}
use Rattle.live_columns.specs.declared.choice.Unchosen.{Unchosen}
use Rattle.replica_reports.specs.Dumps.{dumping_where}
use Rattle.replica_reports.specs.Held.{held_in}
use Rattle.replica_store.specs.Replica.{Replica}
use Rattle.lanes_c.specs.ColumnCalls.{AsksTexts, IsGiven}
use Rattle.lanes_c.specs.Faults.{told_of_choice}
use Rattle.lanes_c.specs.Opened.{IsWhyNotOpened}
use Rattle.lanes_c.specs.Rooms.{Given}

-- the dump of what is chosen, or why it isn't known what is
abbrev pub dump_of_choice : Bool → Replica → Result ChoiceForm Unchosen → Given
dump_of_choice has_names r (Ok choice) = Ok (dumping_where has_names choice r)
dump_of_choice has_names r (Err fault) = Err (told_of_choice fault)

-- The dump of the rows of a replica at which a condition is true, in the columns of names with one space between; or the first fault: of
-- the texts, of the condition, of a name, of the condition's names.
abbrev pub Dumps : Given → Bool → List ℕ → List ℕ → Replica → Type 0
Dumps given has_names names condition r = AsksTexts (IsGiven (dump_of_choice has_names r (choice_of r.schema 32 names condition))) given names condition

-- lanes_dump_where: the same of what a file holds, or why it isn't opened
abbrev pub DumpsFile : Given → Bool → List ℕ → List ℕ → List ℕ → Type 0
DumpsFile (Ok bytes) has_names names condition file = (r : Replica) × (held_in file ≡ Ok r) × Dumps (Ok bytes) has_names names condition r
DumpsFile (Err fault) has_names names condition file = IsWhyNotOpened fault file ⊎ ((r : Replica) × (held_in file ≡ Ok r) × Dumps (Err fault) has_names names condition r)
