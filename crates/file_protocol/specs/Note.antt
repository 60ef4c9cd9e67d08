-- How a call is noted: by numbers, of which the first says which call and the second whether it succeeded, and by its texts.
use Rattle.std.specs.Prelude.{ℕ, Bool, true, false, List, ◌==◌, map, slice_index, Option, Some, None, if◌then◌else◌}
use Rattle.file_protocol.specs.Event.{Event, Opened, Locked, Compared, Emptied, Wrote, Synced, Renamed, Removed, Settled, SyncedFile, Read}

-- a call as it is noted: its numbers, and its texts
abbrev pub Noted : Type 0
Noted = List ℕ × List ℕ × List ℕ

-- how many bytes were taken, where the write succeeded
abbrev pub taken_of : Bool → ℕ → Option ℕ
taken_of true n = Some n
taken_of false n = None

-- whether a file was made, where one was opened
abbrev pub made_of : Bool → ℕ → Option Bool
made_of true n = Some (n == 1)
made_of false n = None

-- what a read gave: nothing, no file, or these bytes
abbrev pub answer_of : ℕ → List ℕ → Option (Option (List ℕ))
answer_of n bytes = if n == 0 then None else if n == 1 then Some None else Some (Some bytes)

-- the call that such numbers and texts note
abbrev pub event_from : ℕ → ℕ → ℕ → List ℕ → List ℕ → Event
event_from kind ok n first second =
    if kind == 0 then Opened first (made_of (ok == 1) n)
    else if kind == 1 then Locked (ok == 1)
    else if kind == 2 then Compared first (ok == 1)
    else if kind == 3 then Emptied (ok == 1)
    else if kind == 4 then Wrote first (taken_of (ok == 1) n)
    else if kind == 5 then Synced (ok == 1)
    else if kind == 6 then Renamed first second (ok == 1)
    else if kind == 7 then Removed first (ok == 1)
    else if kind == 8 then Settled (ok == 1)
    else if kind == 9 then Read first (answer_of n second)
    else SyncedFile first (ok == 1)

-- the call that a note is of
abbrev pub event_of : Noted → Event
event_of noted = event_from (slice_index noted.0 0) (slice_index noted.0 1) (slice_index noted.0 2) noted.1 noted.2

-- the calls that notes are of
abbrev pub events_of : List Noted → List Event
events_of noted = map event_of noted
