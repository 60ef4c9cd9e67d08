-- What is taken of the parts of a folder, and why not all are.
use Rattle.std.specs.Prelude.{◌≡◌, ◌⊎◌, ℕ, List, [], ◌∷◌, Some}
use Rattle.folder_model.specs.Call.{Call, Read}
use Rattle.folder_model.specs.Disk.{Among}
use Rattle.folder_model.specs.Parts.{Parts}
use Rattle.folder_model.specs.Turn.{HasReadSince}
use Rattle.folder_protocol.specs.Causes.{Fails, FindsNone, HasCall}
use Rattle.folder_protocol.specs.declared.taking.Untaken.{Untaken}
use Rattle.folder_protocol.specs.declared.taking.Untaken.TheVariants.{Gone, Failed, Refused}

-- The part of this name was read since the last listing began, and its bytes are among these.
abbrev pub IsTaken : Parts → List Call → List (List ℕ) → List ℕ → Type 0
IsTaken parts calls taken name = (bytes : List ℕ) × (name ≡ parts.name_of bytes) × HasReadSince parts bytes calls × Among bytes taken

-- What is taken was taken before, or it was read since the last listing began.
abbrev pub AreReadSince : Parts → List (List ℕ) → List (List ℕ) → List Call → Type 0
AreReadSince parts before taken calls = (bytes : List ℕ) → Among bytes taken → Among bytes before ⊎ HasReadSince parts bytes calls

-- Parts were not all taken: one was gone, or a call failed, or what takes them refused, for which it has its own reason.
abbrev pub UntakenCause : {E : Type 0} → Untaken E → List Call → List Call → Type 0
UntakenCause Gone before after = (name : List ℕ) × HasCall (FindsNone name) before after
UntakenCause (Failed error) before after = HasCall Fails before after
UntakenCause (Refused fault) before after = Unit {0}

-- the bytes of the files that were read, the newest first
abbrev pub bytes_read : List Call → List (List ℕ)
bytes_read [] = []
bytes_read (Read name (Some (Some bytes)) ∷ earlier) = bytes ∷ bytes_read earlier
bytes_read (call ∷ earlier) = bytes_read earlier
