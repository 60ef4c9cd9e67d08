-- What a read of a file's bytes finds that are not given.
use Rattle.std.specs.Prelude.{◌≡◌, ◌∷◌, ℕ, Bool, true, false, List, Some, None}
use Rattle.folder_model.specs.Call.{Call, Read}

-- A read has found a file of this name, with some bytes, or none.
abbrev pub NotesRead : List ℕ → Bool → List Call → List Call → Type 0
NotesRead name true before after = (bytes : List ℕ) × (after ≡ Read name (Some (Some bytes)) ∷ before)
NotesRead name false before after = after ≡ Read name (Some None) ∷ before
