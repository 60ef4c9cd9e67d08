-- A text of comma-separated values that comes in pieces, cut anywhere, and what is still to come of it.
use Rattle.std.specs.Prelude.{◌≡◌, ℕ, ◌<◌, ◌≤◌, ◌==◌, Bool, false, List, [], ◌∷◌, ◌++◌, length, take, Option, Some, None, Result, Ok, Err}
use Rattle.table_model.specs.Faults.{read_limit}
use Rattle.table_model.specs.State.{Batch}
use Rattle.table_model.specs.Table.{Table}
use Rattle.csv_rows.specs.CsvText.{before_rows}
use Rattle.csv_rows.specs.DialectForm.{DialectForm}
use Rattle.csv_rows.specs.Line.{EndsLine}
use Rattle.csv_rows.specs.Reading.{Reading, at_start_in, to_come}
use Rattle.csv_rows.specs.declared.error.CsvError.{CsvError}
use Rattle.csv_rows.specs.declared.error.CsvError.TheVariants.{Refused}

-- A reader of pieces: a reader of whole lines, the bytes of a line that has no end yet, and the fault, once there is one.
pub record PieceReading : Type 0 where
  pub csv : Reading
  pub part : List ℕ
  pub fault : Option CsvError

-- nothing has come yet
abbrev pub before_pieces : DialectForm → Table → Bool → PieceReading
before_pieces dialect table has_header = record { csv = at_start_in dialect table has_header; part = []; fault = None }

-- the rows that are to come of bytes, or the first fault, which stays once there is one
abbrev pub come_unless : Option CsvError → Reading → List ℕ → Result Batch CsvError
come_unless None csv bytes = to_come csv bytes
come_unless (Some fault) csv bytes = Err fault

-- the rows that are still to come, or the first fault, where the text goes on with these bytes to its end
abbrev pub pieces_to_come : PieceReading → List ℕ → Result Batch CsvError
pieces_to_come pieces bytes = come_unless pieces.fault pieces.csv (pieces.part ++ bytes)

-- So many bytes of a piece were taken, at least one if there are any, and rows were read behind those that were there: whatever follows, what
-- is to come of the text is these rows, and then what is to come of what follows.
abbrev pub TakesPiece : PieceReading → PieceReading → Batch → Batch → List ℕ → ℕ → Type 0
TakesPiece old new rows rows' piece count =
    (made : Batch) × (count ≤ length piece) × (0 < length piece → 0 < count) × (rows' ≡ rows ++ made) × ((more : List ℕ) → pieces_to_come old (take count piece ++ more) ≡ before_rows made (pieces_to_come new more))

-- the first fault of the text, whatever follows the piece; memory is no fault of the text
abbrev pub RefusesPiece : PieceReading → CsvError → List ℕ → Type 0
RefusesPiece old (Refused refusal) piece = Unit {0}
RefusesPiece old fault piece = (more : List ℕ) → pieces_to_come old (piece ++ more) ≡ Err fault

-- the text ended, and its last rows were read behind those that were there
abbrev pub EndsPieces : PieceReading → Batch → Batch → Type 0
EndsPieces old rows rows' = (made : Batch) × (rows' ≡ rows ++ made) × (pieces_to_come old [] ≡ Ok made)

-- the first fault of the text, which has ended
abbrev pub RefusesEnd : PieceReading → CsvError → Type 0
RefusesEnd old (Refused refusal) = Unit {0}
RefusesEnd old fault = pieces_to_come old [] ≡ Err fault

-- no byte ends a line
abbrev pub IsOpen : List ℕ → Type 0
IsOpen [] = Unit {0}
IsOpen (byte ∷ bytes) = ((byte == 10) ≡ false) × IsOpen bytes

-- how many bytes are kept of a line that has no end yet: those of a line, its carriage return and a byte order mark
abbrev pub part_limit : ℕ
part_limit = 1048580

-- A reader of whole lines waits for the end of the line that begins with this part.
pub record Waits (csv : Reading) (part : List ℕ) : Type 0 where
  pub none : csv.pending ≡ []
  pub no_end : IsOpen part
  pub short : length part ≤ part_limit
  pub few : csv.number ≤ read_limit
  pub first : csv.order ≡ None → csv.number ≡ 0

-- it waits, unless the text was refused
abbrev pub IsReady : Option CsvError → Reading → List ℕ → Type 0
IsReady None csv part = Waits csv part
IsReady (Some fault) csv part = Unit {0}

-- what a piece that is taken makes of a part of a line, and of the rows that were there
abbrev pub Continues : Reading → Reading → List ℕ → List ℕ → Batch → Batch → List ℕ → ℕ → Type 0
Continues csv csv' part part' rows rows' piece count =
    (made : Batch) × (count ≤ length piece) × (0 < length piece → 0 < count) × (rows' ≡ rows ++ made) × ((more : List ℕ) → to_come csv (part ++ (take count piece ++ more)) ≡ before_rows made (to_come csv' (part' ++ more)))

-- the first fault of a part of a line and of the piece behind it, whatever follows
abbrev pub RefusesBehind : Reading → List ℕ → CsvError → List ℕ → Type 0
RefusesBehind csv part (Refused refusal) piece = Unit {0}
RefusesBehind csv part fault piece = (more : List ℕ) → to_come csv (part ++ (piece ++ more)) ≡ Err fault

-- ---- lines that are there whole

-- all lines of a text were read behind the rows that were there
abbrev pub ReadsText : Reading → Batch → Batch → List ℕ → Type 0
ReadsText old rows rows' text = (made : Batch) × (rows' ≡ rows ++ made) × (to_come old text ≡ Ok made)

-- where they are whole, so were those of each text that goes on behind them, up to there
abbrev pub ReadsOnward : Reading → Reading → Batch → Batch → List ℕ → Type 0
ReadsOnward old new rows rows' text = (made : Batch) × (rows' ≡ rows ++ made) × (EndsLine text → (more : List ℕ) → to_come old (text ++ more) ≡ before_rows made (to_come new more))

-- the first fault of a text of lines, and of each text that goes on behind whole lines
abbrev pub RefusesText : Reading → CsvError → List ℕ → Type 0
RefusesText old (Refused refusal) text = Unit {0}
RefusesText old fault text = (to_come old text ≡ Err fault) × (EndsLine text → (more : List ℕ) → to_come old (text ++ more) ≡ Err fault)
