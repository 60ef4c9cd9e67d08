-- Among which calls a file is given its name.
use Rattle.std.specs.Prelude.{◌≡◌, ℕ, List, [], ◌∷◌, ◌++◌}
use Rattle.folder_model.specs.Call.{Call, Linked, Locked, Unlocked, Began, Listed}
use Rattle.folder_model.specs.Disk.{Among}
use Rattle.folder_model.specs.Turn.{HasWatched}

-- The call gives no file a name, changes no lock, and lists nothing.
abbrev pub IsPlain : Call → Type 0
IsPlain (Linked from to answer) = ⊥
IsPlain (Locked kind ok) = ⊥
IsPlain Unlocked = ⊥
IsPlain Began = ⊥
IsPlain (Listed answer) = ⊥
IsPlain call = Unit {0}

-- all are
abbrev pub ArePlain : List Call → Type 0
ArePlain [] = Unit {0}
ArePlain (call ∷ earlier) = IsPlain call × ArePlain earlier

-- So are all calls between two histories.
abbrev pub GoesPlainly : List Call → List Call → Type 0
GoesPlainly before after = (calls : List Call) × (after ≡ calls ++ before) × ArePlain calls

-- The call was not to give a file a name; or it was made after calls of which this is so.
abbrev pub LinksAfter : (List Call → Type 0) → Call → List Call → Type 0
LinksAfter P (Linked from to answer) earlier = P earlier
LinksAfter P call earlier = Unit {0}

-- so is each of these calls
abbrev pub EachLinksAfter : (List Call → Type 0) → List Call → List Call → Type 0
EachLinksAfter P [] before = Unit {0}
EachLinksAfter P (call ∷ calls) before = LinksAfter P call (calls ++ before) × EachLinksAfter P calls before

-- Between two histories each call that was to give a file a name, whatever it answered, was made after calls of which this is so.
abbrev pub LinksOnly : (List Call → Type 0) → List Call → List Call → Type 0
LinksOnly P before after = (calls : List Call) × (after ≡ calls ++ before) × EachLinksAfter P calls before

-- No call was to give a file a name.
abbrev pub LinksNone : List Call → List Call → Type 0
LinksNone before after = LinksOnly (λ calls. ⊥) before after

-- This was so of the calls at some moment between two histories.
abbrev pub WasSo : (List Call → Type 0) → List Call → List Call → Type 0
WasSo P before after = (mid : List Call) × ((calls : List Call) × (mid ≡ calls ++ before)) × ((calls : List Call) × (after ≡ calls ++ mid)) × P mid

-- A listing under the exclusive lock, which was had since it began, gave names of which this is so.
abbrev pub Watches : (List (List ℕ) → Type 0) → List Call → Type 0
Watches P calls = (names : List (List ℕ)) × HasWatched names calls × P names

-- of each of some names this is so
abbrev pub Each : (List ℕ → Type 0) → List (List ℕ) → Type 0
Each P names = (name : List ℕ) → Among name names → P name

-- of one of them
abbrev pub One : (List ℕ → Type 0) → List (List ℕ) → Type 0
One P names = (name : List ℕ) × Among name names × P name

-- each of some names is among those that were listed
abbrev pub HasEach : List (List ℕ) → List (List ℕ) → Type 0
HasEach some names = Each (λ name. Among name names) some

-- one of them is not
abbrev pub LacksOne : List (List ℕ) → List (List ℕ) → Type 0
LacksOne some names = One (λ name. Among name names → ⊥) some
