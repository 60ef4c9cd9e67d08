-- The lines of a text of comma-separated values: what its line feeds end, and what follows the last of them.
use Rattle.std.specs.Prelude.{◌≡◌, ◌⊎◌, ℕ, Bool, true, false, ◌==◌, cond, List, [], ◌∷◌, ◌++◌, length, Option, Some, None, option_map, option_and_then}
use Rattle.table_model.specs.Pieces.{pieces, without}

-- how many bytes a line may have, without its end
abbrev pub line_limit : ℕ
line_limit = 1048576

-- what comes before such a byte that a text ends with
abbrev pub before_last : ℕ → List ℕ → Option (List ℕ)
before_last byte [] = None
before_last byte (c ∷ []) = cond (c == byte) (Some []) None
before_last byte (c ∷ next ∷ cs) = option_map (λ text. c ∷ text) (before_last byte (next ∷ cs))

-- the first text where there is one, else the second
abbrev pub text_or : Option (List ℕ) → List ℕ → List ℕ
text_or (Some text) other = text
text_or None other = other

-- a piece that a line feed ends, without the carriage return before that, if there is one
abbrev pub without_return : List ℕ → List ℕ
without_return piece = text_or (before_last 13 piece) piece

-- A line of a text: its bytes without its end, and whether it has an end. Only the last line of a text can be without one.
pub record TextLine : Type 0 where
  pub bytes : List ℕ
  pub has_end : Bool

-- a line of these bytes
abbrev pub text_line : List ℕ → Bool → TextLine
text_line bytes has_end = record { bytes = bytes; has_end = has_end }

-- a line that a line feed ends
abbrev pub ended : List ℕ → TextLine
ended bytes = text_line bytes true

-- a last line that no line feed ends
abbrev pub unended : List ℕ → TextLine
unended bytes = text_line bytes false

-- the lines of pieces between line feeds: what follows the last line feed is a line where it isn't empty
abbrev pub lines_between : List (List ℕ) → List TextLine
lines_between [] = []
lines_between (last ∷ []) = cond (length last == 0) [] (unended last ∷ [])
lines_between (piece ∷ next ∷ pieces) = ended (without_return piece) ∷ lines_between (next ∷ pieces)

-- the lines of a text
abbrev pub lines_of : List ℕ → List TextLine
lines_of text = lines_between (pieces 10 text)

-- what follows a byte order mark at the head of a text
abbrev pub after_mark : List ℕ → Option (List ℕ)
after_mark text = option_and_then (without 191) (option_and_then (without 187) (without 239 text))

-- a text without the byte order mark at its head, if there is one
abbrev pub unmarked : List ℕ → List ℕ
unmarked text = text_or (after_mark text) text

-- a text whose last line has its end
abbrev pub EndsLine : List ℕ → Type 0
EndsLine text = (front : List ℕ) × (text ≡ front ++ (10 ∷ []))

-- a text of whole lines: it has none, or the last one has its end
abbrev pub AreWhole : List ℕ → Type 0
AreWhole text = (text ≡ []) ⊎ EndsLine text
