-- Answers and their text.
use Rattle.std.specs.Prelude.{ℕ, ◌/◌, ◌%◌, List, [], ◌∷◌, ◌++◌, map, codes, pos, negsuc, suc, replicate, length, ◌-◌, ℤ, Option, Some, None}
use Rattle.std.specs.Fmt.{decimal, signed_decimal}
use Rattle.table_model.specs.declared.answer.Field.{Field}
use Rattle.table_model.specs.declared.answer.Field.TheVariants.{Null, Whole, Millionths}

-- an answer: the texts of its heading, and its rows
pub record AnswerParts : Type 0 where
  pub heading : List (List ℕ)
  pub rows : List (List Field)

-- a whole number or null as a field
abbrev pub whole : Option ℤ → Field
whole None = Null
whole (Some z) = Whole z

-- a number of millionths or null as a field
abbrev pub millionths : Option ℤ → Field
millionths None = Null
millionths (Some z) = Millionths z

-- six decimals of a number of millionths below a million
abbrev pub six_digits : ℕ → List ℕ
six_digits n = replicate (6 - length (decimal n)) 48 ++ decimal n

-- a number of millionths: a whole part, a point and six decimals
abbrev pub millionths_text : ℕ → List ℕ
millionths_text n = decimal (n / 1000000) ++ (codes "." ++ six_digits (n % 1000000))

-- a field as it is written; a result of zero millionths has no sign
abbrev pub field_text : Field → List ℕ
field_text Null = codes "NULL"
field_text (Whole z) = signed_decimal z
field_text (Millionths (pos n)) = millionths_text n
field_text (Millionths (negsuc n)) = codes "-" ++ millionths_text (suc n)

-- texts joined by commas
abbrev pub joined : List (List ℕ) → List ℕ
joined [] = []
joined (text ∷ []) = text
joined (text ∷ next ∷ texts) = text ++ (codes "," ++ joined (next ∷ texts))

-- a line of texts joined by commas, with its line feed
abbrev pub line_of : List (List ℕ) → List ℕ
line_of texts = joined texts ++ (10 ∷ [])

-- the lines of an answer's rows, in order
abbrev pub rows_text : List (List Field) → List ℕ
rows_text [] = []
rows_text (row ∷ rows) = line_of (map field_text row) ++ rows_text rows

-- the text of an answer: the heading's line, and then a line for each row
abbrev pub answer_text : AnswerParts → List ℕ
answer_text answer = line_of answer.heading ++ rows_text answer.rows
