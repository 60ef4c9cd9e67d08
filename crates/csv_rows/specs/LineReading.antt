-- The lines of a text as they are read, piece by piece.
use Rattle.std.specs.Prelude.{◌≡◌, ℕ, suc, ◌+◌, ◌<◌, ◌≤◌, true, false, List, [], ◌∷◌, ◌++◌, drop, length, Option}
use Rattle.std.specs.Io.KnownBytes.{IsAtEnd, Consumes}
use Rattle.csv_rows.specs.Line.{line_limit, TextLine, ended, lines_between, lines_of}
use Rattle.table_model.specs.Pieces.{pieces}
use Rattle.csv_rows.specs.LinesForm.{LinesForm, last_read}
use Rattle.csv_rows.specs.Reading.{AsKnown}
use Rattle.csv_rows.specs.declared.lines.Found.{Found}
use Rattle.csv_rows.specs.declared.lines.Found.TheVariants as found
use Rattle.csv_rows.specs.declared.lines.Taken.{Taken}
use Rattle.csv_rows.specs.declared.lines.Taken.TheVariants as taken

-- the pieces with a text before the first of them
abbrev pub onto_piece : List ℕ → List (List ℕ) → List (List ℕ)
onto_piece text [] = text ∷ []
onto_piece text (piece ∷ pieces) = (text ++ piece) ∷ pieces

-- the lines of a part of a line and of the bytes that follow it
abbrev pub lines_after : List ℕ → List ℕ → List TextLine
lines_after part bytes = lines_between (onto_piece part (pieces 10 bytes))

-- there is a first line, and it is too long
abbrev pub FirstTooLong : List TextLine → Type 0
FirstTooLong [] = ⊥
FirstTooLong (line ∷ lines) = line_limit < length line.bytes

-- what was taken of some bytes onto a part of a line, whatever follows: the line's end, all of them, or enough that the line is too long
abbrev pub Takes : Taken → List ℕ → List ℕ → List ℕ → Type 0
Takes (taken.Line count) part bytes line =
    (0 < count) × (count ≤ length bytes) × (length line ≤ line_limit) × ((more : List ℕ) → lines_after part (bytes ++ more) ≡ ended line ∷ lines_of (drop count bytes ++ more))
Takes taken.Part part bytes line = (line ≡ part ++ bytes) × ((more : List ℕ) → lines_after part (bytes ++ more) ≡ lines_after line more)
Takes taken.TooLong part bytes line = (more : List ℕ) → FirstTooLong (lines_after part (bytes ++ more))

-- what a reader of lines took of the bytes that came
abbrev pub Took : Taken → LinesForm → LinesForm → Type 0
Took (taken.Line count) old new = Takes (taken.Line count) old.line old.pending new.line × (new.pending ≡ drop count old.pending) × (new.has_end ≡ true) × (new.number ≡ suc old.number)
Took taken.Part old new = Takes taken.Part old.line old.pending new.line × (new.pending ≡ []) × (new.at ≡ 0) × (new.number ≡ old.number) × (new.spare ≡ old.spare + length old.pending)
Took taken.TooLong old new = Takes taken.TooLong old.line old.pending new.line × (new.number ≡ old.number)

-- what a part of a line at the end of the text is
abbrev pub Ends : Found → LinesForm → LinesForm → Type 0
Ends found.Line old new = (new.line ≡ old.line) × (new.has_end ≡ false) × (0 < length old.line) × (length old.line ≤ line_limit) × (new.number ≡ suc old.number)
Ends found.End old new = (length old.line ≡ 0) × (new.number ≡ old.number)
Ends found.TooLong old new = (line_limit < length old.line) × (new.number ≡ old.number)

-- a number of bytes came behind those that weren't taken yet
abbrev pub Grows : ℕ → List ℕ → List ℕ → Option (List ℕ) → Option (List ℕ) → Type 0
Grows count pending pending' before after = (chunk : List ℕ) × (length chunk ≡ count) × (pending' ≡ pending ++ chunk) × Consumes before after chunk

-- what the next line is
abbrev pub Finds : Found → LinesForm → LinesForm → Option (List ℕ) → Option (List ℕ) → Type 0
Finds found.Line old new before after =
    (new.number ≡ suc old.number) × (length new.line ≤ line_limit) × AsKnown (λ bytes rest. lines_of (old.pending ++ bytes) ≡ last_read new ∷ lines_of (new.pending ++ rest)) before after
Finds found.End old new before after =
    (new.number ≡ old.number) × IsAtEnd after × AsKnown (λ bytes rest. (lines_of (old.pending ++ bytes) ≡ []) × (lines_of (new.pending ++ rest) ≡ [])) before after
Finds found.TooLong old new before after = (new.number ≡ old.number) × AsKnown (λ bytes rest. FirstTooLong (lines_of (old.pending ++ bytes))) before after
