-- Queries that are the lines of a text: what is between its line feeds. The lines are told one after another: what is written, and
-- whether each was answered.
use Rattle.std.specs.Prelude.{◌≡◌, ℕ, ◌+◌, ◌-◌, Bool, true, false, ◌&&◌, ◌==◌, cond, nat_lt, List, [], ◌∷◌, ◌++◌, length, take, drop, position, Option, Some, None, Result, Ok, Err}
use Rattle.std.specs.Io.KnownBytes.{Appends}
use Rattle.std.specs.Str.{is_utf8}
use Rattle.std.specs.Str.Lossy.{utf8_valid_len}
use Rattle.table_model.specs.Faults.{AppendsFront}
use Rattle.table_model.specs.declared.refusal.Refusal.{Refusal}
use Rattle.table_model.specs.declared.refusal.Refusal.TheVariants.{Syntax, LineTooLong}
use Rattle.answer_formats.specs.declared.format.Format.{Format}
use Rattle.csv_rows.specs.Line.{line_limit}
use Rattle.table_model.specs.Pieces.{pieces}
use Rattle.csv_rows.specs.LineReading.{onto_piece}
use Rattle.replica_store.specs.Replica.{Replica}
use Rattle.replica_reports.specs.Asking.{answered_in}

-- a part of a line with more of it: it stops growing one byte past the limit
abbrev pub grown : List ℕ → List ℕ → List ℕ
grown part more = part ++ take (line_limit + 1 - length part) more

-- the texts before and after the first line feed
pub record CutAt (bytes front back : List ℕ) : Type 0 where
  pub at : ℕ
  pub found : Some at ≡ position (λ byte. byte == 10) bytes
  pub before : front ≡ take at bytes
  pub after : back ≡ drop (at + 1) bytes

-- the answer of a query in bytes: these are a text, or Syntax is at the first byte that belongs to no character
abbrev pub answer_in_bytes : Format → Replica → List ℕ → Result (List ℕ) Refusal
answer_in_bytes format r bytes = cond (is_utf8 bytes) (answered_in format r bytes) (Err (Syntax (utf8_valid_len bytes)))

-- the answer of a line: of an empty one there is nothing, and one past the limit is too long
unfoldable pub line_answer : Format → Replica → List ℕ → Result (List ℕ) Refusal
line_answer format r line = cond (length line == 0) (Ok []) (cond (nat_lt line_limit (length line)) (Err LineTooLong) (answer_in_bytes format r line))

-- what is reported: a text, and whether all was answered
abbrev pub Told : Type 0
Told = List ℕ × Bool

-- one after the other
abbrev pub both : Told → Told → Told
both first next = (first.0 ++ next.0, first.1 && next.1)

-- nothing
abbrev pub nothing_told : Told
nothing_told = ([], true)

-- what is reported of an answer: its text; of a refusal nothing is written
abbrev pub told_of : Result (List ℕ) Refusal → Told
told_of (Ok text) = (text, true)
told_of (Err e) = ([], false)

-- what is reported of lines
abbrev pub lines_told : Format → Replica → List (List ℕ) → Told
lines_told format r [] = nothing_told
lines_told format r (line ∷ lines) = both (told_of (line_answer format r line)) (lines_told format r lines)

-- what is reported of a text whose lines are queries
abbrev pub queries_told : Format → Replica → List ℕ → Told
queries_told format r text = lines_told format r (pieces 10 text)

-- what is still to be told, after a part of a line, if these bytes follow
abbrev pub still_told : Format → Replica → List ℕ → List ℕ → Told
still_told format r part bytes = lines_told format r (onto_piece part (pieces 10 bytes))

-- A front of the text with that number of bytes was read, and this was told of it: what is still to be told, whatever bytes follow, is that of
-- the part of a line that was read last.
abbrev pub Heard : Format → Replica → Option (List ℕ) → Option (List ℕ) → Option (List ℕ) → Option (List ℕ) → Bool → List ℕ → ℕ → Type 0
Heard format r None rest before now whole part total = Unit {0}
Heard format r (Some input) None before now whole part total = ⊥
Heard format r (Some input) (Some rest) before now whole part total =
    (read : List ℕ) × (done : List ℕ) × (input ≡ read ++ rest) × (length read ≡ total) × Appends before now done × ((more : List ℕ) → queries_told format r (read ++ more) ≡ both (done, whole) (still_told format r part more))

-- all was told
abbrev pub HeardAll : Format → Replica → Option (List ℕ) → Option (List ℕ) → Option (List ℕ) → Bool → Type 0
HeardAll format r None before now whole = Unit {0}
HeardAll format r (Some input) before now whole = Appends before now (queries_told format r input).0 × (whole ≡ (queries_told format r input).1)

-- a front of it was told
abbrev pub HeardFront : Format → Replica → Option (List ℕ) → Option (List ℕ) → Option (List ℕ) → Type 0
HeardFront format r None before now = Unit {0}
HeardFront format r (Some input) before now = AppendsFront before now (queries_told format r input).0

-- a chunk is reported after a part of a line, and this part is left
pub record Fed (format : Format) (r : Replica) (before now : Option (List ℕ)) (was whole : Bool) (part chunk left : List ℕ) : Type 0 where
  pub done : List ℕ
  pub answered : Bool
  pub told : Appends before now done
  pub is_whole : whole ≡ (was && answered)
  pub goes : (more : List ℕ) → still_told format r part (chunk ++ more) ≡ both (done, answered) (still_told format r left more)

-- a front of what is reported of it was written, whatever follows
abbrev pub FedFront : Format → Replica → Option (List ℕ) → Option (List ℕ) → List ℕ → List ℕ → Type 0
FedFront format r before now part chunk = (more : List ℕ) → AppendsFront before now (still_told format r part (chunk ++ more)).0

-- a number of further bytes are read, and their lines are told
abbrev pub HeardMore : Format → Replica → Option (List ℕ) → Option (List ℕ) → Option (List ℕ) → Option (List ℕ) → Bool → Bool → List ℕ → List ℕ → ℕ → Type 0
HeardMore format r rest rest' now now' whole whole' part part' n =
    (input before : Option (List ℕ)) (total : ℕ) → Heard format r input rest before now whole part total → Heard format r input rest' before now' whole' part' (total + n)

-- what is reported is still a front
abbrev pub EndsEarly : Format → Replica → Option (List ℕ) → Option (List ℕ) → Option (List ℕ) → Bool → List ℕ → Type 0
EndsEarly format r rest now now' whole part = (input before : Option (List ℕ)) (total : ℕ) → Heard format r input rest before now whole part total → HeardFront format r input before now'
