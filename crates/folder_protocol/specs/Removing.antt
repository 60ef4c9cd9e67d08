-- After which calls a name is removed.
use Rattle.std.specs.Prelude.{◌≡◌, ◌⊎◌, ℕ, List, [], ◌∷◌, ◌++◌}
use Rattle.folder_model.specs.Call.{Call, Removed}
use Rattle.folder_model.specs.Disk.{Among}
use Rattle.folder_model.specs.Parts.{Parts}
use Rattle.folder_protocol.specs.Premises.{IsGuarded}

-- The call was to remove no name; or one of which this is so after the calls before.
abbrev pub RemovesAfter : (List ℕ → List Call → Type 0) → Call → List Call → Type 0
RemovesAfter P (Removed name ok) earlier = P name earlier
RemovesAfter P call earlier = Unit {0}

-- so is each of these calls
abbrev pub EachRemovesAfter : (List ℕ → List Call → Type 0) → List Call → List Call → Type 0
EachRemovesAfter P [] before = Unit {0}
EachRemovesAfter P (call ∷ calls) before = RemovesAfter P call (calls ++ before) × EachRemovesAfter P calls before

-- Between two histories each call that was to remove a name, whatever it answered, was to remove one of which this is so after the calls before.
abbrev pub RemovesOnce : (List ℕ → List Call → Type 0) → List Call → List Call → Type 0
RemovesOnce P before after = (calls : List Call) × (after ≡ calls ++ before) × EachRemovesAfter P calls before

-- The name is one of these. The part with these bytes was read and synced, and then the folder was synced, all under the exclusive lock, which
-- is held since.
abbrev pub IsReplaced : Parts → List ℕ → List (List ℕ) → List ℕ → List Call → Type 0
IsReplaced parts bytes names name calls = Among name names × IsGuarded parts bytes calls

-- The name is that of the temporary, or the part of this name is replaced.
abbrev pub IsOwnOrReplaced : Parts → List ℕ → List ℕ → List (List ℕ) → List ℕ → List Call → Type 0
IsOwnOrReplaced parts temporary bytes names name calls = (name ≡ temporary) ⊎ IsReplaced parts bytes names name calls
