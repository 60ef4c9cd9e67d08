-- Columns by their names.
use Rattle.std.specs.Prelude.{◌≡◌, ◌⊎◌, ℕ, ◌+◌, ◌==◌, List, [], ◌∷◌, ◌++◌, map, length, Option, Some, None, Result, Ok, Err}
use Rattle.std.specs.Global.{Vec}
use Rattle.std.specs.List.{position, range_with_len, slice_split}
use Rattle.table_model.specs.Identifier.{folded, same_text}
use Rattle.table_model.specs.Table.{ColumnShape}
use Rattle.table_model.specs.declared.refusal.Refusal.TheVariants.{Memory}
use Rattle.live_columns.specs.declared.choice.Unchosen.{Unchosen}
use Rattle.live_columns.specs.declared.choice.Unchosen.TheVariants.{Refused, NoSuchName}

-- the place of the first column with this name, whatever the case of its letters
abbrev pub place_named : List ColumnShape → List ℕ → Option ℕ
place_named columns name = position (λ column. same_text (folded name) (folded column.name)) columns

-- a place before others; where there is none, the byte is reported
abbrev pub with_place : Option ℕ → ℕ → Result (List ℕ) ℕ → Result (List ℕ) ℕ
with_place None at rest = Err at
with_place (Some place) at (Ok places) = Ok (place ∷ places)
with_place (Some place) at (Err later) = Err later

-- the places of the columns of these names, of which the first begins at a byte; or the byte of the first name that no column has
abbrev pub places_from : List ColumnShape → ℕ → List (List ℕ) → Result (List ℕ) ℕ
places_from columns at [] = Ok []
places_from columns at (name ∷ names) = with_place (place_named columns name) at (places_from columns (at + length name + 1) names)

-- the names of a list with a separator between each two
abbrev pub parts_of : ℕ → List ℕ → List (List ℕ)
parts_of separator names = slice_split (λ byte. byte == separator) names

-- the places of the columns that a list names; of an empty list those of all columns
abbrev pub places_named : List ColumnShape → ℕ → List ℕ → Result (List ℕ) ℕ
places_named columns separator [] = Ok (range_with_len 0 (length columns))
places_named columns separator (byte ∷ names) = places_from columns 0 (parts_of separator (byte ∷ names))

-- what is read of names; out of memory may come in the place of anything
abbrev pub ReadsPlaces : Result (Vec ℕ) Unchosen → Result (List ℕ) ℕ → Type 0
ReadsPlaces (Ok places) meaning = meaning ≡ Ok places.items
ReadsPlaces (Err (NoSuchName at)) meaning = meaning ≡ Err at
ReadsPlaces (Err (Refused e)) meaning = e ≡ Memory
