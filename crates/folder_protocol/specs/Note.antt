-- How a call is noted: by numbers, of which the first says which call, the second whether it succeeded and the third what it gave; by its texts; and by the names that a listing gave.
use Rattle.std.specs.Prelude.{ℕ, Bool, true, false, List, ◌==◌, map, take, slice_index, Option, Some, None, if◌then◌else◌}
use Rattle.folder_model.specs.Call.{Call, Kind, Shared, Exclusive, Linking, Done, Taken, Failed, Made, Wrote, Synced, Linked, Removed, Settled, Locked, Unlocked, Began, Listed, Read, Looked}

-- a call as it is noted: its numbers, its texts, and its names
abbrev pub Noted : Type 0
Noted = List ℕ × List ℕ × List ℕ × List (List ℕ)

-- a write of bytes, of which so many were taken if it succeeded
abbrev pub write_of : Bool → ℕ → List ℕ → Call
write_of true n bytes = Wrote (take n bytes) true
write_of false n bytes = Wrote bytes false

-- what came of a link
abbrev pub linking_of : ℕ → Linking
linking_of n = if n == 0 then Done else if n == 1 then Taken else Failed

-- how the folder was locked
abbrev pub kind_of : ℕ → Kind
kind_of n = if n == 0 then Shared else Exclusive

-- what a listing gave: these names, or nothing
abbrev pub names_of : Bool → List (List ℕ) → Option (List (List ℕ))
names_of true names = Some names
names_of false names = None

-- what a read gave: nothing, no file, or these bytes
abbrev pub answer_of : ℕ → List ℕ → Option (Option (List ℕ))
answer_of n bytes = if n == 0 then None else if n == 1 then Some None else Some (Some bytes)

-- the call that such numbers, texts and names note
abbrev pub call_from : ℕ → ℕ → ℕ → List ℕ → List ℕ → List (List ℕ) → Call
call_from kind ok n first second names =
    if kind == 0 then Made first (ok == 1)
    else if kind == 1 then write_of (ok == 1) n first
    else if kind == 2 then Synced (ok == 1)
    else if kind == 3 then Linked first second (linking_of n)
    else if kind == 4 then Removed first (ok == 1)
    else if kind == 5 then Settled (ok == 1)
    else if kind == 6 then Locked (kind_of n) (ok == 1)
    else if kind == 7 then Unlocked
    else if kind == 8 then Began
    else if kind == 9 then Listed (names_of (ok == 1) names)
    else if kind == 10 then Read first (answer_of n second)
    else Looked first (ok == 1)

-- the call that a note is of
abbrev pub call_of : Noted → Call
call_of noted = call_from (slice_index noted.0 0) (slice_index noted.0 1) (slice_index noted.0 2) noted.1 noted.2 noted.3

-- the calls that notes are of
abbrev pub calls_of : List Noted → List Call
calls_of noted = map call_of noted
