-- What an answer of the protocol comes of: calls that failed, and what calls found.
use Rattle.std.specs.Prelude.{◌≡◌, ◌≢◌, ◌⊎◌, ℕ, false, List, [], ◌∷◌, ◌++◌, Some, None}
use Rattle.folder_model.specs.Call.{Call, Made, Wrote, Synced, Linked, Removed, Settled, Locked, Unlocked, Began, Listed, Read, Looked, Linking, Done, Taken, Failed}
use Rattle.folder_model.specs.Disk.{Among}
use Rattle.folder_protocol.specs.declared.putting.Outcome.{Outcome}
use Rattle.folder_protocol.specs.declared.putting.Outcome.TheVariants.{OnDisk, Unsynced, Gone, Damaged}

-- The call failed. A write that takes nothing has failed.
abbrev pub Fails : Call → Type 0
Fails (Made name ok) = ok ≡ false
Fails (Wrote bytes ok) = (ok ≡ false) ⊎ (bytes ≡ [])
Fails (Synced ok) = ok ≡ false
Fails (Linked from to answer) = answer ≡ Failed
Fails (Removed name ok) = ok ≡ false
Fails (Settled ok) = ok ≡ false
Fails (Locked kind ok) = ok ≡ false
Fails Unlocked = ⊥
Fails Began = ⊥
Fails (Listed answer) = answer ≡ None
Fails (Read name answer) = answer ≡ None
Fails (Looked name ok) = ok ≡ false

-- The sync of the open file or of the folder failed.
abbrev pub FailsToSync : Call → Type 0
FailsToSync (Synced ok) = ok ≡ false
FailsToSync (Settled ok) = ok ≡ false
FailsToSync call = ⊥

-- This was the answer as a file was to be given this name.
abbrev pub AnswersLink : List ℕ → Linking → Call → Type 0
AnswersLink name answer (Linked from to given) = (to ≡ name) × (given ≡ answer)
AnswersLink name answer call = ⊥

-- There was no file of this name.
abbrev pub FindsNone : List ℕ → Call → Type 0
FindsNone name (Read other answer) = (other ≡ name) × (answer ≡ Some None)
FindsNone name call = ⊥

-- The file of this name had other bytes than these.
abbrev pub FindsOther : List ℕ → List ℕ → Call → Type 0
FindsOther name bytes (Read other answer) = (other ≡ name) × (found : List ℕ) × (answer ≡ Some (Some found)) × (found ≢ bytes)
FindsOther name bytes call = ⊥

-- The names that a listing gave lacked one of these.
abbrev pub Lacks : List (List ℕ) → Call → Type 0
Lacks names (Listed (Some listed)) = (name : List ℕ) × Among name names × (Among name listed → ⊥)
Lacks names call = ⊥

-- one of these calls is so
abbrev pub AnyIs : (Call → Type 0) → List Call → Type 0
AnyIs P [] = ⊥
AnyIs P (call ∷ earlier) = P call ⊎ AnyIs P earlier

-- one of the calls between two histories is so
abbrev pub HasCall : (Call → Type 0) → List Call → List Call → Type 0
HasCall P before after = (calls : List Call) × (after ≡ calls ++ before) × AnyIs P calls

-- What came of looking at the part of this name and with these bytes has its cause.
abbrev pub LookCause : Outcome → List ℕ → List ℕ → List Call → List Call → Type 0
LookCause OnDisk name bytes before after = Unit {0}
LookCause Unsynced name bytes before after = HasCall FailsToSync before after
LookCause Gone name bytes before after = HasCall (FindsNone name) before after
LookCause Damaged name bytes before after = HasCall (FindsOther name bytes) before after

-- The file was given this name, or another file had it, as a link was answered.
abbrev pub IsNamed : Outcome → List ℕ → List Call → List Call → Type 0
IsNamed OnDisk name before after = Unit {0}
IsNamed Unsynced name before after = HasCall (AnswersLink name Done) before after ⊎ HasCall (AnswersLink name Taken) before after
IsNamed Gone name before after = HasCall (AnswersLink name Taken) before after
IsNamed Damaged name before after = HasCall (AnswersLink name Taken) before after
