-- Parts that are had on the disk since a command relies on them.
use Rattle.std.specs.Prelude.{◌≡◌, ◌⊎◌, ℕ, List, Some}
use Rattle.folder_model.specs.Call.{Call, Read}
use Rattle.folder_model.specs.Disk.{Among}
use Rattle.folder_model.specs.Parts.{Parts}
use Rattle.folder_model.specs.Turn.{HasRead, WasSynced, IsKept, HasMissed, IsGone}
use Rattle.folder_protocol.specs.Causes.{FindsNone, HasCall}

-- the file of this name had these bytes
abbrev pub Finds : List ℕ → List ℕ → Call → Type 0
Finds name bytes (Read other (Some (Some found))) = (other ≡ name) × (found ≡ bytes)
Finds name bytes call = ⊥

-- There was no file of this name; or it was read, and, if it is a part, synced.
abbrev pub IsSyncedOrGone : Parts → List ℕ → List Call → List Call → Type 0
IsSyncedOrGone parts name before after =
    HasCall (FindsNone name) before after ⊎ ((bytes : List ℕ) × HasCall (Finds name bytes) before after × (name ≡ parts.name_of bytes → WasSynced parts bytes after))

-- The same, and the folder was synced after that.
abbrev pub IsKeptOrGone : Parts → List ℕ → List Call → List Call → Type 0
IsKeptOrGone parts name before after =
    HasCall (FindsNone name) before after ⊎ ((bytes : List ℕ) × HasCall (Finds name bytes) before after × (name ≡ parts.name_of bytes → IsKept parts bytes after))

-- so is each of these names
abbrev pub AreKept : Parts → List (List ℕ) → List Call → List Call → Type 0
AreKept parts names before after = (name : List ℕ) → Among name names → IsKeptOrGone parts name before after

-- A part of this name that was read before was read again and synced; or it was gone, or other bytes had its name.
abbrev pub IsSyncedOrMissed : Parts → List ℕ → List Call → List Call → Type 0
IsSyncedOrMissed parts name before after = (bytes : List ℕ) → name ≡ parts.name_of bytes → HasRead parts bytes before → WasSynced parts bytes after ⊎ HasMissed parts bytes after

-- Each part of these names that was read before is kept, or is gone, as the laws speak of both: it is safe.
abbrev pub AreReliedOn : Parts → List (List ℕ) → List Call → List Call → Type 0
AreReliedOn parts names before after = (name : List ℕ) → Among name names → (bytes : List ℕ) → name ≡ parts.name_of bytes → HasRead parts bytes before → IsKept parts bytes after ⊎ IsGone parts bytes after
