-- The text of an answer in each format.
use Rattle.std.specs.Prelude.{ℕ, ◌+◌, ◌-◌, max, List, [], ◌∷◌, ◌++◌, map, codes, length, replicate, get_or}
use Rattle.table_model.specs.Answer.{AnswerParts, field_text, line_of, answer_text}
use Rattle.table_model.specs.declared.answer.Field.{Field}
use Rattle.table_model.specs.declared.answer.Field.TheVariants.{Null}
use Rattle.answer_formats.specs.declared.format.Format.{Format}
use Rattle.answer_formats.specs.declared.format.Format.TheVariants.{Text, Csv, Json, Table}

-- texts with a separator between each two
abbrev pub separated : List ℕ → List (List ℕ) → List ℕ
separated between [] = []
separated between (text ∷ []) = text
separated between (text ∷ next ∷ texts) = text ++ (between ++ separated between (next ∷ texts))

-- ---- comma-separated values

-- a field: a null is empty
abbrev pub csv_field : Field → List ℕ
csv_field Null = []
csv_field other = field_text other

-- the lines of rows
abbrev pub csv_rows_text : List (List Field) → List ℕ
csv_rows_text [] = []
csv_rows_text (row ∷ rows) = line_of (map csv_field row) ++ csv_rows_text rows

-- an answer: its heading, and a line for each row
abbrev pub csv_answer : AnswerParts → List ℕ
csv_answer answer = line_of answer.heading ++ csv_rows_text answer.rows

-- ---- JSON

-- a field as a value
abbrev pub json_value : Field → List ℕ
json_value Null = codes "null"
json_value other = field_text other

-- a heading and a field as a member of an object
abbrev pub json_member : List ℕ → Field → List ℕ
json_member heading field = codes "\"" ++ (heading ++ (codes "\":" ++ json_value field))

-- the members of a row's object
abbrev pub json_members : List (List ℕ) → List Field → List (List ℕ)
json_members [] fields = []
json_members (heading ∷ headings) [] = []
json_members (heading ∷ headings) (field ∷ fields) = json_member heading field ∷ json_members headings fields

-- the line of a row's object
abbrev pub json_object : List (List ℕ) → List Field → List ℕ
json_object headings fields = codes "{" ++ (separated (codes ",") (json_members headings fields) ++ codes "}\n")

-- the lines of rows
abbrev pub json_rows_text : List (List ℕ) → List (List Field) → List ℕ
json_rows_text headings [] = []
json_rows_text headings (row ∷ rows) = json_object headings row ++ json_rows_text headings rows

-- an answer: a line for each row
abbrev pub json_answer : AnswerParts → List ℕ
json_answer answer = json_rows_text answer.heading answer.rows

-- ---- columns in line

-- the text of a row's field in a column; there is none past the row's end
abbrev pub text_at : ℕ → List Field → List ℕ
text_at column row = get_or (map field_text row) column []

-- the width of a column: that of its widest text
abbrev pub widest : ℕ → ℕ → List (List Field) → ℕ
widest column width [] = width
widest column width (row ∷ rows) = widest column (max width (length (text_at column row))) rows

-- the widths of the columns of some headings, the first of which is this column
abbrev pub widths_from : ℕ → List (List ℕ) → List (List Field) → List ℕ
widths_from column [] rows = []
widths_from column (heading ∷ headings) rows = widest column (length heading) rows ∷ widths_from (column + 1) headings rows

-- a text at the right of a column
abbrev pub to_the_right : ℕ → List ℕ → List ℕ
to_the_right width text = replicate (width - length text) 32 ++ text

-- texts, each at the right of its column
abbrev pub in_columns : List ℕ → List (List ℕ) → List (List ℕ)
in_columns [] texts = []
in_columns (width ∷ widths) [] = []
in_columns (width ∷ widths) (text ∷ texts) = to_the_right width text ∷ in_columns widths texts

-- the line of texts, with two spaces between columns
abbrev pub spaced_line : List (List ℕ) → List ℕ
spaced_line texts = separated (codes "  ") texts ++ (10 ∷ [])

-- the rule of a column
abbrev pub rule : ℕ → List ℕ
rule width = replicate width 45

-- the lines of rows
abbrev pub table_rows_text : List ℕ → List (List Field) → List ℕ
table_rows_text widths [] = []
table_rows_text widths (row ∷ rows) = spaced_line (in_columns widths (map field_text row)) ++ table_rows_text widths rows

-- an answer whose columns have these widths: its heading, a rule below each column's, and a line for each row
abbrev pub table_lines : List ℕ → AnswerParts → List ℕ
table_lines widths answer =
    spaced_line (in_columns widths answer.heading) ++ (spaced_line (map rule widths) ++ table_rows_text widths answer.rows)

-- an answer, each column as wide as its widest text
abbrev pub table_answer : AnswerParts → List ℕ
table_answer answer = table_lines (widths_from 0 answer.heading answer.rows) answer

-- ---- all of them

-- the text of an answer in a format
unfoldable pub formatted : Format → AnswerParts → List ℕ
formatted Text answer = answer_text answer
formatted Csv answer = csv_answer answer
formatted Json answer = json_answer answer
formatted Table answer = table_answer answer
