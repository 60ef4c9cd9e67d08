-- What the calls give that read the table of a handle: its file, its report, and how many batches it has.
use Rattle.std.specs.Prelude.{◌≡◌, ℕ, ◌==◌, cond, List, MatchOption, Ok, Err}
use Rattle.std.specs.FinMap as map
use Rattle.answer_formats.specs.declared.format.ReportForm.{ReportForm}
use Rattle.answer_formats.specs.declared.format.ReportForm.TheVariants.{Text, Json}
use Rattle.column_file.specs.Files.{AreCanonicalOf}
use Rattle.column_file.specs.Input.{IsUnread}
use Rattle.replica_changes.specs.Commands.{as_held}
use Rattle.replica_reports.specs.Reports.{Reports}
use Rattle.replica_store.specs.Replica.{Replica}
use Rattle.replica_store.specs.Segments.{StoreForm}
use Rattle.lanes_c.specs.Opened.{IsNotOpen}
use Rattle.lanes_c.specs.Rooms.{Given, Tells}
use Rattle.lanes_c.specs.declared.fault.Fault.TheVariants.{Refused}
use Rattle.lanes_c.specs.declared.fault.Place.{Place}
use Rattle.lanes_c.specs.declared.handle.Table.{Table}

-- the form of a report by its number: 2 is JSON, and each other number a text
abbrev pub report_form : ℕ → ReportForm
report_form n = cond (n == 2) Json Text

-- a text is the report of what is open, whose segments are canonical; only memory may run out
abbrev pub IsReport : Given → ReportForm → StoreForm → Type 0
IsReport (Ok text) form s = Reports form s text
IsReport (Err (Refused e)) form s = IsUnread e
IsReport (Err other) form s = ⊥

-- lanes_inspect: the report of a replica's file, which is that of the store that the file opens to; its segments are canonical
abbrev pub Inspects : Given → ReportForm → Replica → Type 0
Inspects (Ok text) form r = (s : StoreForm) × (s.replica ≡ as_held r) × AreCanonicalOf s.replica.schema s.replica.state.batches s.segments × Reports form s text
Inspects (Err (Refused e)) form r = IsUnread e
Inspects (Err other) form r = ⊥

-- A handle is read: it stays as it was; of a closed one NotOpen is reported, and of an open one what its replica has is given.
abbrev pub ReadsOpen : (Replica → Given → Type 0) → ℕ → Table → Table → List ℕ → List ℕ → ℕ → Place → Type 0
ReadsOpen Means number old new was room length place =
    (new.replica ≡ old.replica) × MatchOption old.replica (Tells IsNotOpen number was room length place) (λ r. Tells (Means r) number was room length place)

-- lanes_batches: the handle stays as it was; a closed one has no batch
abbrev pub CountsOpen : ℕ → Table → Table → Type 0
CountsOpen count old new = (new.replica ≡ old.replica) × MatchOption old.replica (count ≡ 0) (λ r. count ≡ map.len r.state.batches)
