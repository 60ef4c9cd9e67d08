-- How rows are read of lines, where the bytes are known.
use Rattle.std.specs.Prelude.{◌≡◌, ℕ, suc, ◌+◌, List, [], ◌∷◌, ◌++◌, length, Option, Result, Ok, Err}
use Rattle.table_model.specs.State.{Batch}
use Rattle.table_model.specs.Table.{ColumnShape}
use Rattle.csv_rows.specs.DialectForm.{DialectForm}
use Rattle.csv_rows.specs.Line.{TextLine, lines_of}
use Rattle.csv_rows.specs.LinesForm.{LinesForm}
use Rattle.csv_rows.specs.CsvText.{header_order, header_rows, rows_from, before_rows}
use Rattle.csv_rows.specs.Reading.{AsKnown}
use Rattle.csv_rows.specs.declared.error.CsvError.{CsvError}
use Rattle.csv_rows.specs.declared.error.CsvError.TheVariants.{Refused}

-- the rows of the lines that are still to come, or the first fault
abbrev pub lines_to_come : DialectForm → List ColumnShape → List (Option ℕ) → LinesForm → List ℕ → Result Batch CsvError
lines_to_come dialect columns order lines bytes = rows_from dialect columns order (suc lines.number) (lines_of (lines.pending ++ bytes))

-- rows were read behind those that were there
abbrev pub ReadsOn : DialectForm → List ColumnShape → List (Option ℕ) → LinesForm → LinesForm → Batch → Batch → Option (List ℕ) → Option (List ℕ) → Type 0
ReadsOn dialect columns order old new rows rows' before after =
    (made : Batch) × (rows' ≡ rows ++ made) × AsKnown (λ bytes rest. lines_to_come dialect columns order old bytes ≡ before_rows made (lines_to_come dialect columns order new rest)) before after

-- these lines were read, and the rows behind those that were there are theirs
abbrev pub TakesLines : DialectForm → List ColumnShape → List (Option ℕ) → LinesForm → LinesForm → Batch → Batch → Option (List ℕ) → Option (List ℕ) → Type 0
TakesLines dialect columns order old new rows rows' before after =
    (taken : List TextLine) × (made : Batch) × (rows' ≡ rows ++ made) × (rows_from dialect columns order (suc old.number) taken ≡ Ok made) × (new.number ≡ old.number + length taken)
    × AsKnown (λ bytes rest. lines_of (old.pending ++ bytes) ≡ taken ++ lines_of (new.pending ++ rest)) before after

-- there are no more rows
abbrev pub NoLines : DialectForm → List ColumnShape → List (Option ℕ) → LinesForm → Option (List ℕ) → Option (List ℕ) → Type 0
NoLines dialect columns order lines before after = AsKnown (λ bytes rest. lines_to_come dialect columns order lines rest ≡ Ok []) before after

-- the first line was read, a header, which gives this order
abbrev pub ReadsHeading : DialectForm → List ColumnShape → LinesForm → LinesForm → List (Option ℕ) → Option (List ℕ) → Option (List ℕ) → Type 0
ReadsHeading dialect columns old new order before after =
    (heading : TextLine) × (header_order dialect columns heading ≡ Ok order) × AsKnown (λ bytes rest. lines_of (old.pending ++ bytes) ≡ heading ∷ lines_of (new.pending ++ rest)) before after

-- the first fault of the lines that are to come
abbrev pub RefusesLines : DialectForm → List ColumnShape → List (Option ℕ) → LinesForm → CsvError → Option (List ℕ) → Type 0
RefusesLines dialect columns order old (Refused refusal) before = Unit {0}
RefusesLines dialect columns order old fault before = AsKnown (λ bytes rest. lines_to_come dialect columns order old bytes ≡ Err fault) before before

-- the first fault of a header and the lines below it
abbrev pub RefusesHeader : DialectForm → List ColumnShape → LinesForm → CsvError → Option (List ℕ) → Type 0
RefusesHeader dialect columns old (Refused refusal) before = Unit {0}
RefusesHeader dialect columns old fault before = AsKnown (λ bytes rest. header_rows dialect columns (lines_of (old.pending ++ bytes)) ≡ Err fault) before before

-- no line is left, so that what comes next begins a line
abbrev pub IsBetweenLines : LinesForm → Option (List ℕ) → Option (List ℕ) → Type 0
IsBetweenLines lines before after = AsKnown (λ bytes rest. lines_of (lines.pending ++ rest) ≡ []) before after
