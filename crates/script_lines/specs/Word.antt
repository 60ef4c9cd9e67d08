-- Words of a line: texts cut at a byte, numbers, names of batches, values and rows.
use Rattle.std.specs.Prelude.{ℕ, ◌==◌, cond, nat_le, List, [], ◌∷◌, codes, Option, Some, None, option_map, option_and_then, Result, Ok, Err, ℤ}
use Rattle.std.specs.Str.{bytes_eq}
use Rattle.std.specs.Str.Parse.{digits_value}
use Rattle.hex.specs.Hex.{decode_of}
use Rattle.hex.specs.declared.error.FromHexError.{FromHexError}
use Rattle.table_model.specs.Numeral.{is_numeral, integer_of}
use Rattle.table_model.specs.Pieces.{pieces, without}
use Rattle.table_model.specs.State.{Cells, Batch}
use Rattle.table_model.specs.declared.names.BatchName.{BatchName}
use Rattle.segment_core.specs.declared.coding.Coding.{Coding}
use Rattle.segment_core.specs.declared.coding.Coding.TheVariants.{For, Delta, Runs, Dict}

infixl 10 ◌>>=◌
-- what comes next, where there is a first
abbrev pub ◌>>=◌ : {X Y : Type 0} → Option X → (X → Option Y) → Option Y
o >>= f = option_and_then f o

-- a text's parts with one more byte before them
abbrev pub longer : ℕ → List ℕ × List ℕ → List ℕ × List ℕ
longer c parts = (c ∷ parts.0, parts.1)

-- what comes before the first such byte, and what comes after it
abbrev pub cut : ℕ → List ℕ → Option (List ℕ × List ℕ)
cut separator [] = None
cut separator (c ∷ cs) = cond (c == separator) (Some ([], cs)) (option_map (longer c) (cut separator cs))

-- what each element gives, where each gives something
abbrev pub each_of : {X Y : Type 0} → (X → Option Y) → List X → Option (List Y)
each_of f [] = Some []
each_of f (x ∷ xs) = f x >>= (λ y. option_map (λ ys. y ∷ ys) (each_of f xs))

-- the number that 1 to a number of digits write, where it is at most the limit
unfoldable pub number_of : ℕ → ℕ → List ℕ → Option ℕ
number_of digits limit text = cond (is_numeral digits text) (cond (nat_le (digits_value 10 text) limit) (Some (digits_value 10 text)) None) None

-- how many digits a number of 32 bits is written with at most
abbrev pub number_digits : ℕ
number_digits = 10

-- a replica, an origin or a batch's number: 1 to number_digits digits, at most 4,294,967,295
abbrev pub small_number : List ℕ → Option ℕ
small_number text = number_of number_digits 4294967295 text

-- how many digits an ordinal is written with at most
abbrev pub ordinal_digits : ℕ
ordinal_digits = 5

-- an ordinal: 1 to ordinal_digits digits, at most 65,535
abbrev pub ordinal_of : List ℕ → Option ℕ
ordinal_of text = number_of ordinal_digits 65535 text

-- the name of a batch: an origin, a point and a number
abbrev pub name_of : List ℕ → Option BatchName
name_of text = do
  parts ← cut 46 text
  origin ← small_number parts.0
  number ← small_number parts.1
  Some (record { origin = record { 0 = origin }; number = record { 0 = number } })

-- a value: NULL, or a whole number
abbrev pub cell_of : List ℕ → Option (Option ℤ)
cell_of text = cond (bytes_eq text (codes "NULL")) (Some None) (option_map Some (integer_of text))

-- the values of a row, joined by commas
abbrev pub cells_of : List ℕ → Option Cells
cells_of text = each_of cell_of (pieces 44 text)

-- a row with the parenthesis that opens it
abbrev pub opened_cells : List ℕ → Option Cells
opened_cells text = without 40 text >>= cells_of

-- the texts are rows, each with a comma and a parenthesis before it, and then nothing
abbrev pub rows_from : List (List ℕ) → Option Batch
rows_from [] = None
rows_from ([] ∷ []) = Some []
rows_from ((c ∷ cs) ∷ []) = None
rows_from (text ∷ next ∷ texts) = (without 44 text >>= opened_cells) >>= (λ row. option_map (λ rows. row ∷ rows) (rows_from (next ∷ texts)))

-- rows: values in parentheses, joined by commas; so with one more comma at their head, what each closing parenthesis ends opens by a comma and a parenthesis
abbrev pub rows_of : List ℕ → Option Batch
rows_of text = rows_from (pieces 41 (44 ∷ text))

-- the name of a coding
abbrev pub coding_of : List ℕ → Option Coding
coding_of text =
    cond (bytes_eq text (codes "FOR")) (Some For)
    (cond (bytes_eq text (codes "DELTA")) (Some Delta)
    (cond (bytes_eq text (codes "RLE")) (Some Runs)
    (cond (bytes_eq text (codes "DICT")) (Some Dict) None)))

-- a text that isn't empty
abbrev pub some_text : List ℕ → Option (List ℕ)
some_text [] = None
some_text (c ∷ cs) = Some (c ∷ cs)

-- the bytes that were decoded, if they were
abbrev pub decoded : Result (List ℕ) FromHexError → Option (List ℕ)
decoded (Ok bytes) = Some bytes
decoded (Err e) = None

-- the bytes that hexadecimal digits write, two digits for each, in either case; there is one byte at least
abbrev pub file_of : List ℕ → Option (List ℕ)
file_of text = some_text text >>= (λ digits. decoded (decode_of digits))
