-- What the fields of a text are, as a list of words says it.
use Rattle.std.specs.Prelude.{◌≡◌, ℕ, suc, Bool, false, ◌==◌, cond, List, [], ◌∷◌, ◌++◌, Option, Some, None, option_and_then, position, Result, Ok, Err}
use Rattle.std.specs.List.{list_any}
use Rattle.table_model.specs.Identifier.{same_text}
use Rattle.table_model.specs.Table.{ColumnShape, has_name}
use Rattle.csv_rows.specs.CsvText.{◌>>=◌}
use Rattle.table_model.specs.Pieces.{pieces}
use Rattle.csv_rows.specs.declared.order.WordError.{WordError}
use Rattle.csv_rows.specs.declared.order.WordError.TheVariants.{NoNewColumn, Memory}

-- the place of the column of this name, in any case
abbrev pub place_of : List ColumnShape → List ℕ → Option ℕ
place_of columns name = position (λ column. has_name column.name name) columns

-- whether a field is of the column of a place
abbrev pub is_of : ℕ → Option ℕ → Bool
is_of place None = false
is_of place (Some found) = found == place

-- the place of a column that no field before is of
abbrev pub unused : List (Option ℕ) → ℕ → Option (Option ℕ)
unused before place = cond (list_any (is_of place) before) None (Some (Some place))

-- what a word says of a field, behind these fields: a hyphen, that it is passed over; a column's name, that it is of this column
abbrev pub word_field : List ColumnShape → List (Option ℕ) → List ℕ → Option (Option ℕ)
word_field columns before word = cond (same_text word (45 ∷ [])) (Some None) (option_and_then (unused before) (place_of columns word))

-- a field, or the fault in the word at this place of the list
abbrev pub or_word : ℕ → Option (Option ℕ) → Result (Option ℕ) ℕ
or_word at None = Err at
or_word at (Some field) = Ok field

-- the fields that words say, after those before them, or the first word at fault, counted from at
abbrev pub order_by : List ColumnShape → ℕ → List (Option ℕ) → List (List ℕ) → Result (List (Option ℕ)) ℕ
order_by columns at before [] = Ok before
order_by columns at before (word ∷ words) = or_word at (word_field columns before word) >>= (λ field. order_by columns (suc at) (before ++ (field ∷ [])) words)

-- the order that a list of words says, with a comma between each two
abbrev pub order_of_words : List ColumnShape → List ℕ → Result (List (Option ℕ)) ℕ
order_of_words columns words = order_by columns 1 [] (pieces 44 words)

-- what a call answers to that; out of memory may come in the place of anything
abbrev pub ReadsWords : Result (List (Option ℕ)) WordError → Result (List (Option ℕ)) ℕ → Type 0
ReadsWords (Ok order) given = given ≡ Ok order
ReadsWords (Err (NoNewColumn at)) given = given ≡ Err at
ReadsWords (Err Memory) given = Unit {0}
