-- A code of calls, by which a struct may say that two histories are equal.
use Rattle.std.specs.Prelude.{◌≡◌, refl, ◌==◌, if◌then◌else◌, ℕ, Bool, true, List, [], Option, None}
use Rattle.std.specs.Coded.{Coded, code_by, coded_ℕ, coded_list, coded×, coded_bool, coded_option}
use Rattle.folder_model.specs.Call.{Call, Made, Wrote, Synced, Linked, Removed, Settled, Locked, Unlocked, Began, Listed, Read, Looked, Exclusive, Shared, Done, Taken, Failed}

-- a number, a truth value, two texts, names, and what was found
abbrev Shape : Type 0
Shape = ℕ × (Bool × (List ℕ × (List ℕ × (Option (List (List ℕ)) × Option (Option (List ℕ))))))

-- the shape of a call
abbrev shape : Call → Shape
shape (Made name ok) = (0, (ok, (name, ([], (None, None)))))
shape (Wrote bytes ok) = (1, (ok, (bytes, ([], (None, None)))))
shape (Synced ok) = (2, (ok, ([], ([], (None, None)))))
shape (Linked from to Done) = (3, (true, (from, (to, (None, None)))))
shape (Linked from to Taken) = (4, (true, (from, (to, (None, None)))))
shape (Linked from to Failed) = (5, (true, (from, (to, (None, None)))))
shape (Removed name ok) = (6, (ok, (name, ([], (None, None)))))
shape (Settled ok) = (7, (ok, ([], ([], (None, None)))))
shape (Locked Exclusive ok) = (8, (ok, ([], ([], (None, None)))))
shape (Locked Shared ok) = (9, (ok, ([], ([], (None, None)))))
shape Unlocked = (10, (true, ([], ([], (None, None)))))
shape Began = (11, (true, ([], ([], (None, None)))))
shape (Listed names) = (12, (true, ([], ([], (names, None)))))
shape (Read name found) = (13, (true, (name, ([], (None, found)))))
shape (Looked name ok) = (14, (ok, (name, ([], (None, None)))))

-- the call of these numbers, texts and names
abbrev by_number : ℕ → Bool → List ℕ → List ℕ → Option (List (List ℕ)) → Option (Option (List ℕ)) → Call
by_number n ok first second names found =
    if n == 0 then Made first ok
    else if n == 1 then Wrote first ok
    else if n == 2 then Synced ok
    else if n == 3 then Linked first second Done
    else if n == 4 then Linked first second Taken
    else if n == 5 then Linked first second Failed
    else if n == 6 then Removed first ok
    else if n == 7 then Settled ok
    else if n == 8 then Locked Exclusive ok
    else if n == 9 then Locked Shared ok
    else if n == 10 then Unlocked
    else if n == 11 then Began
    else if n == 12 then Listed names
    else if n == 13 then Read first found
    else Looked first ok

-- the call of a shape
abbrev call : Shape → Call
call (n, (ok, (first, (second, (names, found))))) = by_number n ok first second names found

-- the shape gives the call again
pub call_shape : (c : Call) → call (shape c) ≡ c
call_shape (Made name ok) = refl
call_shape (Wrote bytes ok) = refl
call_shape (Synced ok) = refl
call_shape (Linked from to Done) = refl
call_shape (Linked from to Taken) = refl
call_shape (Linked from to Failed) = refl
call_shape (Removed name ok) = refl
call_shape (Settled ok) = refl
call_shape (Locked Exclusive ok) = refl
call_shape (Locked Shared ok) = refl
call_shape Unlocked = refl
call_shape Began = refl
call_shape (Listed names) = refl
call_shape (Read name found) = refl
call_shape (Looked name ok) = refl

-- a call is coded by its shape, from which it can be had again
abbrev pub coded_call : Coded Call
coded_call = code_by Shape (coded× coded_ℕ (coded× coded_bool (coded× (coded_list coded_ℕ) (coded× (coded_list coded_ℕ) (coded× (coded_option (coded_list (coded_list coded_ℕ))) (coded_option (coded_option (coded_list coded_ℕ)))))))) shape call call_shape
