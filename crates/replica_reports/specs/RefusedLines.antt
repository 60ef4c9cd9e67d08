-- The lines of queries that are refused, as a listener is told of them: each with its number, its bytes and why, and no other line.
use Rattle.std.specs.Prelude.{◌≡◌, ℕ, ◌+◌, ◌-◌, ◌^◌, min, List, [], ◌∷◌, ◌++◌, take, Option, Some, None, Result, Ok, Err}
use Rattle.table_model.specs.declared.refusal.Refusal.{Refusal}
use Rattle.answer_formats.specs.declared.format.Format.{Format}
use Rattle.csv_rows.specs.Line.{line_limit}
use Rattle.table_model.specs.Pieces.{pieces}
use Rattle.csv_rows.specs.LineReading.{onto_piece}
use Rattle.replica_store.specs.Replica.{Replica}
use Rattle.replica_reports.specs.QueryLines.{line_answer}

-- a refused line: its number, from 1, its bytes, up to one past the limit of a line, and why it is refused
pub record RefusedLine : Type 0 where
  pub number : ℕ
  pub line : List ℕ
  pub refusal : Refusal

-- a refused line by these
abbrev pub refused_line : ℕ → List ℕ → Refusal → RefusedLine
refused_line number line refusal = record { number = number; line = line; refusal = refusal }

-- the number after another, up to the greatest of 64 bits; so many lines no text has
abbrev pub next_number : ℕ → ℕ
next_number n = min (n + 1) (2 ^ 64 - 1)

-- what is told of a line with this number and this answer: nothing if it is answered
abbrev pub refused_of : ℕ → List ℕ → Result (List ℕ) Refusal → List RefusedLine
refused_of number line (Ok text) = []
refused_of number line (Err e) = refused_line number (take (line_limit + 1) line) e ∷ []

-- what is told of lines, if the one before them has this number
abbrev pub lines_refused : Format → Replica → ℕ → List (List ℕ) → List RefusedLine
lines_refused format r n [] = []
lines_refused format r n (line ∷ lines) = refused_of (next_number n) line (line_answer format r line) ++ lines_refused format r (next_number n) lines

-- what is told of a text whose lines are queries
abbrev pub queries_refused : Format → Replica → List ℕ → List RefusedLine
queries_refused format r text = lines_refused format r 0 (pieces 10 text)

-- what is still to be told, after so many lines and a part of a line, if these bytes follow
abbrev pub still_refused : Format → Replica → ℕ → List ℕ → List ℕ → List RefusedLine
still_refused format r n part bytes = lines_refused format r n (onto_piece part (pieces 10 bytes))

-- a listener that says what it was told was told of these lines more
abbrev pub HearsMore : Option (List RefusedLine) → Option (List RefusedLine) → List RefusedLine → Type 0
HearsMore None now more = Unit {0}
HearsMore (Some before) None more = ⊥
HearsMore (Some before) (Some now) more = now ≡ before ++ more

-- it was told of the first of these lines, up to one of them
abbrev pub HearsFront : Option (List RefusedLine) → Option (List RefusedLine) → List RefusedLine → Type 0
HearsFront before now lines = (front : List RefusedLine) × (back : List RefusedLine) × (lines ≡ front ++ back) × HearsMore before now front

-- each line of the text that is refused was told, in order, and nothing else
abbrev pub HearsRefused : Format → Replica → Option (List ℕ) → Option (List RefusedLine) → Option (List RefusedLine) → Type 0
HearsRefused format r None before now = Unit {0}
HearsRefused format r (Some input) before now = HearsMore before now (queries_refused format r input)

-- what was told is the front of that, and nothing else
abbrev pub HearsSome : Format → Replica → Option (List ℕ) → Option (List RefusedLine) → Option (List RefusedLine) → Type 0
HearsSome format r None before now = Unit {0}
HearsSome format r (Some input) before now = HearsFront before now (queries_refused format r input)

-- ---- on the way

-- A front of the text was read, and this was told of it: what is still to be told, whatever bytes follow, is that of the part of a line that
-- was read last, after so many lines.
abbrev pub Hearing : Format → Replica → Option (List ℕ) → Option (List ℕ) → Option (List RefusedLine) → Option (List RefusedLine) → ℕ → List ℕ → Type 0
Hearing format r None rest before now n part = Unit {0}
Hearing format r (Some input) None before now n part = ⊥
Hearing format r (Some input) (Some rest) before now n part =
    (read : List ℕ) × (done : List RefusedLine) × (input ≡ read ++ rest) × HearsMore before now done × ((more : List ℕ) → queries_refused format r (read ++ more) ≡ done ++ still_refused format r n part more)

-- what was refused of a chunk is told after a part of a line, and this part is left
pub record HearsChunk (format : Format) (r : Replica) (before now : Option (List RefusedLine)) (was n : ℕ) (part chunk left : List ℕ) : Type 0 where
  pub done : List RefusedLine
  pub told : HearsMore before now done
  pub goes : (more : List ℕ) → still_refused format r was part (chunk ++ more) ≡ done ++ still_refused format r n left more

-- not all of it, but nothing else, whatever follows
abbrev pub HearsChunkFront : Format → Replica → Option (List RefusedLine) → Option (List RefusedLine) → ℕ → List ℕ → List ℕ → Type 0
HearsChunkFront format r before now n part chunk = (more : List ℕ) → HearsFront before now (still_refused format r n part (chunk ++ more))

-- further bytes are read, and what is refused of their lines is told
abbrev pub HearingMore : Format → Replica → Option (List ℕ) → Option (List ℕ) → Option (List RefusedLine) → Option (List RefusedLine) → ℕ → ℕ → List ℕ → List ℕ → Type 0
HearingMore format r rest rest' now now' n n' part part' =
    (input : Option (List ℕ)) (before : Option (List RefusedLine)) → Hearing format r input rest before now n part → Hearing format r input rest' before now' n' part'

-- what was told is still a front
abbrev pub HearingEnds : Format → Replica → Option (List ℕ) → Option (List RefusedLine) → Option (List RefusedLine) → ℕ → List ℕ → Type 0
HearingEnds format r rest now now' n part = (input : Option (List ℕ)) (before : Option (List RefusedLine)) → Hearing format r input rest before now n part → HearsSome format r input before now'
