-- Which calls of a folder's history are asked for and told.
use Rattle.std.specs.Prelude.{◌≡◌, ℕ, Bool, true, false, List, [], ◌∷◌, ◌++◌, map, take, drop, length, leb, not, if◌then◌else◌, Option, Some, None}
use Rattle.std.specs.String.{string_bytes}
use Rattle.folder_model.specs.Call.{Call, Made, Wrote, Synced, Linked, Removed, Settled, Locked, Unlocked, Began, Listed, Read, Looked, Exclusive, Shared, Linking, Done, Taken, Failed}
use Rattle.folder_protocol.specs.Note.{calls_of}
use Rattle.folder_turns.specs.declared.request.Request.{Request}
use Rattle.folder_turns.specs.declared.request.Request.TheVariants.{Make, Write, Sync, Link, Remove, Settle, Lock, LockShared, ListNames, Unlock, ReadFile}
use Rattle.folder_turns.specs.declared.wanted.Wanted.{Wanted}
use Rattle.folder_turns.specs.declared.wanted.Wanted.TheVariants as wanted
use Rattle.folder_turns.specs.declared.request.Answer.{Answer}
use Rattle.folder_turns.specs.declared.request.Answer.TheVariants as answers
use Rattle.folder_turns.specs.declared.request.Told.{Told}

-- the call that is asked for, as it is noted until it is answered, if these bytes are put; a listing is two calls, of which this is the first
abbrev pub call_asked : List ℕ → Request → Call
call_asked whole (Make name) = Made (string_bytes name) false
call_asked whole (Write from) = Wrote (drop from whole) false
call_asked whole Sync = Synced false
call_asked whole (Link from to) = Linked (string_bytes from) (string_bytes to) Failed
call_asked whole (Remove name) = Removed (string_bytes name) false
call_asked whole Settle = Settled false
call_asked whole Lock = Locked Exclusive false
call_asked whole LockShared = Locked Shared false
call_asked whole ListNames = Began
call_asked whole Unlock = Unlocked
call_asked whole (ReadFile name) = Read (string_bytes name) None

-- a call that a run makes, as it is noted until it is answered
abbrev pub wanted_of : Wanted → Call
wanted_of (wanted.Make name) = Made name.now false
wanted_of (wanted.Write bytes) = Wrote bytes.now false
wanted_of wanted.Sync = Synced false
wanted_of (wanted.Link from to) = Linked from.now to.now Failed
wanted_of (wanted.Remove name) = Removed name.now false
wanted_of wanted.Settle = Settled false
wanted_of wanted.Lock = Locked Exclusive false
wanted_of wanted.LockShared = Locked Shared false
wanted_of wanted.ListNames = Began
wanted_of wanted.Unlock = Unlocked
wanted_of (wanted.ReadFile name) = Read name.now None

-- the number of a call that is asked for
abbrev pub kind_of : Call → ℕ
kind_of (Made name ok) = 1
kind_of (Wrote bytes ok) = 2
kind_of (Synced ok) = 3
kind_of (Linked from to ok) = 4
kind_of (Removed name ok) = 5
kind_of (Settled ok) = 6
kind_of (Locked Exclusive ok) = 7
kind_of (Locked Shared ok) = 8
kind_of Began = 9
kind_of (Read name ok) = 10
kind_of Unlocked = 11
kind_of (Listed names) = 12
kind_of (Looked name ok) = 13

-- its first name, or its bytes
abbrev pub first_of : Call → List ℕ
first_of (Made name ok) = name
first_of (Wrote bytes ok) = bytes
first_of (Linked from to ok) = from
first_of (Removed name ok) = name
first_of (Read name ok) = name
first_of call = []

-- its second name
abbrev pub second_of : Call → List ℕ
second_of (Linked from to ok) = to
second_of call = []

-- whether the answer is that the call was done
abbrev pub is_done : Answer → Bool
is_done answers.Done = true
is_done answer = false

-- what came of a link
abbrev pub linking_of : Answer → Linking
linking_of answers.Done = Done
linking_of answers.Taken = Taken
linking_of answer = Failed

-- what came of a write of these bytes: nothing can write more of them than there are
abbrev pub write_of : List ℕ → Answer → Call
write_of bytes (answers.Wrote count) = if leb count (length bytes) then Wrote (take count bytes) true else Wrote bytes false
write_of bytes answer = Wrote bytes false

-- the names that a listing gave, if it gave any
abbrev pub names_of : Answer → Option (List (List ℕ))
names_of (answers.Listed names) = Some (map string_bytes names.items)
names_of answer = None

-- the bytes of the read that came last
abbrev pub last_read : List Call → List ℕ
last_read (Read name (Some (Some bytes)) ∷ earlier) = bytes
last_read calls = []

-- what a read gave
abbrev pub found_of : Answer → Option (Option (List ℕ))
found_of answers.Missing = Some None
found_of (answers.Found bytes) = Some (Some bytes.items)
found_of (answers.Noted note) = Some (Some (last_read (calls_of note.record.noted)))
found_of answer = None

-- whether a read found a file
abbrev pub FoundIs : Bool → Option (Option (List ℕ)) → Type 0
FoundIs true given = (bytes : List ℕ) × (given ≡ Some (Some bytes))
FoundIs false given = given ≡ Some None

-- the calls that are noted once a call that was asked for is answered, the newest first
abbrev pub answered : Call → Answer → List Call
answered (Made name ok) answer = Made name (is_done answer) ∷ []
answered (Wrote bytes ok) answer = write_of bytes answer ∷ []
answered (Synced ok) answer = Synced (is_done answer) ∷ []
answered (Linked from to ok) answer = Linked from to (linking_of answer) ∷ []
answered (Removed name ok) answer = Removed name (is_done answer) ∷ []
answered (Settled ok) answer = Settled (is_done answer) ∷ []
answered (Locked kind ok) answer = Locked kind (is_done answer) ∷ []
answered Unlocked answer = Unlocked ∷ []
answered Began answer = Listed (names_of answer) ∷ Began ∷ []
answered (Listed names) answer = []
answered (Read name ok) answer = Read name (found_of answer) ∷ []
answered (Looked name ok) answer = []

-- whether this is a sync of the folder that failed
abbrev pub fails_to_settle : Request → Answer → Bool
fails_to_settle Settle answer = not (is_done answer)
fails_to_settle request answer = false

-- the history after some calls were told, the oldest of them first
abbrev pub calls_after : List ℕ → List Told → List Call → List Call
calls_after whole [] before = before
calls_after whole (told ∷ more) before = calls_after whole more (answered (call_asked whole told.request) told.answer ++ before)
