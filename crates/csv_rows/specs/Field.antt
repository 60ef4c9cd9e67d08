-- The fields of a line, and the null, the whole number or the name that a field is.
use Rattle.std.specs.Prelude.{ℕ, suc, Bool, cond, ◌||◌, List, [], ◌∷◌, length, codes, Option, Some, None, option_map, option_and_then, ℤ}
use Rattle.table_model.specs.Identifier.{same_text}
use Rattle.table_model.specs.Numeral.{integer_of}
use Rattle.table_model.specs.Pieces.{pieces, without}
use Rattle.table_model.specs.Table.{ColumnShape, fits}
use Rattle.csv_rows.specs.DialectForm.{DialectForm, is_own_word}
use Rattle.csv_rows.specs.Line.{before_last, text_or}

-- the fields of a line, between its separators
abbrev pub fields_of : ℕ → List ℕ → List (List ℕ)
fields_of separator line = pieces separator line

-- the fields of what is left of a line, if anything is
abbrev pub fields_left : ℕ → Option (List ℕ) → List (List ℕ)
fields_left separator None = []
fields_left separator (Some rest) = fields_of separator rest

-- how much is left of a line
abbrev pub left_len : Option (List ℕ) → ℕ
left_len None = 0
left_len (Some rest) = suc (length rest)

-- what is in double quotes, where a text is in them
abbrev pub quoted : List ℕ → Option (List ℕ)
quoted text = option_and_then (before_last 34) (without 34 text)

-- a text without the double quotes that it is in, if it is in them
abbrev pub unquoted : List ℕ → List ℕ
unquoted text = text_or (quoted text) text

-- a null as it is written, but for the empty one: NULL, a backslash and N, or the dialect's own word
unfoldable pub is_null_word : DialectForm → List ℕ → Bool
is_null_word dialect text = same_text text (codes "NULL") || (same_text text (92 ∷ 78 ∷ []) || is_own_word dialect.null_word text)

-- a value that isn't empty: a null's word, or a whole number
abbrev pub value_of : DialectForm → List ℕ → Option (Option ℤ)
value_of dialect text = cond (is_null_word dialect text) (Some None) (option_map Some (integer_of text))

-- what a field is: nothing at all is a null, and so is the dialect's own word as it is; else a value, which may be in double quotes
abbrev pub cell_of : DialectForm → List ℕ → Option (Option ℤ)
cell_of dialect [] = Some None
cell_of dialect (c ∷ cs) = cond (is_own_word dialect.null_word (c ∷ cs)) (Some None) (value_of dialect (unquoted (c ∷ cs)))

-- a cell, where its column's type has it
abbrev pub fitting : ColumnShape → Option ℤ → Option (Option ℤ)
fitting column cell = cond (fits column cell) (Some cell) None

-- what a field is below a column
abbrev pub cell_in : DialectForm → ColumnShape → List ℕ → Option (Option ℤ)
cell_in dialect column field = option_and_then (fitting column) (cell_of dialect field)
