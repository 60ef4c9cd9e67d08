-- What a sweep has done.
use Rattle.std.specs.Prelude.{◌≡◌, ℕ, true, List, [], ◌∷◌, ◌++◌}
use Rattle.folder_model.specs.Call.{Call, Removed}
use Rattle.folder_model.specs.Disk.{Among}
use Rattle.folder_model.specs.Turn.{Gave, listing_of}
use Rattle.folder_protocol.specs.Causes.{HasCall}
use Rattle.folder_protocol.specs.Temporary.{is_temporary}

-- the call was to remove this name
abbrev pub Tries : List ℕ → Call → Type 0
Tries name (Removed other ok) = other ≡ name
Tries name call = ⊥

-- A listing gave some names, and each of them that is a temporary's was to be removed.
abbrev pub HasSwept : List Call → List Call → Type 0
HasSwept before after =
    (names : List (List ℕ)) × (listing_of after ≡ Gave names) × ((name : List ℕ) → Among name names → is_temporary name ≡ true → HasCall (Tries name) before after)

-- The call was to remove no name; or one of which this is so.
abbrev pub RemovesSuch : (List ℕ → Type 0) → Call → Type 0
RemovesSuch P (Removed name ok) = P name
RemovesSuch P call = Unit {0}

-- so is each of these calls
abbrev pub EachRemovesSuch : (List ℕ → Type 0) → List Call → Type 0
EachRemovesSuch P [] = Unit {0}
EachRemovesSuch P (call ∷ calls) = RemovesSuch P call × EachRemovesSuch P calls

-- Between two histories no name was to be removed but those of which this is so.
abbrev pub RemovesOnly : (List ℕ → Type 0) → List Call → List Call → Type 0
RemovesOnly P before after = (calls : List Call) × (after ≡ calls ++ before) × EachRemovesSuch P calls

-- Between two histories no name was to be removed but those of temporaries.
abbrev pub RemovesTemporaries : List Call → List Call → Type 0
RemovesTemporaries before after = RemovesOnly (λ name. is_temporary name ≡ true) before after
