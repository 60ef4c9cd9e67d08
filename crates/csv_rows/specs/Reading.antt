-- What a reader of comma-separated values has read, and what is still to come of the text, where the bytes are known.
use Rattle.std.specs.Prelude.{◌≡◌, ◌⊎◌, ℕ, suc, ◌+◌, ◌≤◌, ◌<◌, Bool, true, List, [], ◌++◌, length, Option, Some, None, Result, Ok, Err, OnOk, IfErr}
use Rattle.table_model.specs.Counted.{one_more}
use Rattle.table_model.specs.Faults.{read_limit}
use Rattle.table_model.specs.State.{Batch}
use Rattle.table_model.specs.Table.{Table}
use Rattle.table_model.specs.declared.refusal.Refusal.{Refusal}
use Rattle.table_model.specs.declared.refusal.Refusal.TheVariants.{Memory, ReadFault}
use Rattle.csv_rows.specs.DialectForm.{DialectForm, usual}
use Rattle.csv_rows.specs.Line.{TextLine, lines_of, unmarked, EndsLine, AreWhole}
use Rattle.csv_rows.specs.CsvText.{rows_in, rows_from, before_rows, heading_order, below_heading, headings}
use Rattle.csv_rows.specs.declared.error.CsvError.{CsvError}
use Rattle.csv_rows.specs.declared.error.CsvError.TheVariants.{Refused}

-- A reader of CSV: the table, the dialect of the text, whether the first line is a header, for each field of a line the place of its
-- column, or none where it is passed over, once that is known, the line that was read last, whether it has an end, how many lines were
-- read, the bytes that came and weren't taken yet, and how many bytes came in all.
pub record Reading : Type 0 where
  pub table : Table
  pub dialect : DialectForm
  pub has_header : Bool
  pub order : Option (List (Option ℕ))
  pub line : List ℕ
  pub has_end : Bool
  pub number : ℕ
  pub pending : List ℕ
  pub given : ℕ

-- a reader of a text in a dialect that has read nothing
abbrev pub at_start_in : DialectForm → Table → Bool → Reading
at_start_in dialect table has_header = record { table = table; dialect = dialect; has_header = has_header; order = None; line = []; has_end = true; number = 0; pending = []; given = 0 }

-- a reader of a text in the usual dialect that has read nothing
abbrev pub at_start : Table → Bool → Reading
at_start table has_header = at_start_in usual table has_header

-- the rows that these bytes make, or the first fault, before the order of columns is known and after
abbrev pub rows_after : Reading → Option (List (Option ℕ)) → List ℕ → Result Batch CsvError
rows_after csv None bytes = rows_in csv.dialect csv.table csv.has_header bytes
rows_after csv (Some order) bytes = rows_from csv.dialect csv.table.columns order (suc csv.number) (lines_of bytes)

-- the rows that are still to come, or the first fault, where the reader below has these bytes left
abbrev pub to_come : Reading → List ℕ → Result Batch CsvError
to_come csv bytes = rows_after csv csv.order (csv.pending ++ bytes)

-- what holds of the bytes that a reader has before and after, where it tells them
abbrev pub AsKnown : (List ℕ → List ℕ → Type 0) → Option (List ℕ) → Option (List ℕ) → Type 0
AsKnown holds None after = Unit {0}
AsKnown holds (Some bytes) None = ⊥
AsKnown holds (Some bytes) (Some rest) = holds bytes rest

-- these are the next rows
abbrev pub Gave : Reading → Reading → Batch → Option (List ℕ) → Option (List ℕ) → Type 0
Gave old new rows before after = AsKnown (λ bytes rest. to_come old bytes ≡ before_rows rows (to_come new rest)) before after

-- the next rows were read behind those that were there
abbrev pub Filled : Reading → Reading → Batch → Batch → Option (List ℕ) → Option (List ℕ) → Type 0
Filled old new rows rows' before after = (made : Batch) × (rows' ≡ rows ++ made) × Gave old new made before after

-- these bytes without a byte order mark, which may be at the head of a text
abbrev pub text_after : Option (List (Option ℕ)) → List ℕ → List ℕ
text_after None bytes = unmarked bytes
text_after (Some order) bytes = bytes

-- the lines that are still to come, where the reader below has these bytes left
abbrev pub lines_left : Reading → List ℕ → List TextLine
lines_left csv bytes = lines_of (text_after csv.order (csv.pending ++ bytes))

-- the order of the columns, which the first line gives where the text has a header, and which stays from then on
abbrev pub order_given : Reading → Option (List (Option ℕ)) → List ℕ → Result (List (Option ℕ)) CsvError
order_given csv None bytes = heading_order csv.dialect csv.table csv.has_header (lines_left csv bytes)
order_given csv (Some order) bytes = Ok order

-- the order of the columns is known
abbrev pub Began : Reading → Reading → Option (List ℕ) → Type 0
Began old new before = AsKnown (λ bytes rest. (order : List (Option ℕ)) × (new.order ≡ Some order) × (order_given old old.order bytes ≡ Ok order)) before before

-- The text began: a byte order mark is passed over, the header, if there is one, gives the order and is counted, and the lines below it are
-- still to come.
abbrev pub Begins : Reading → Reading → Option (List ℕ) → Option (List ℕ) → Type 0
Begins old new before after =
    (order : List (Option ℕ)) × (new.order ≡ Some order) × (new.number ≡ headings old.has_header)
    × AsKnown (λ bytes rest. (heading_order old.dialect old.table old.has_header (lines_left old bytes) ≡ Ok order) × (lines_of (new.pending ++ rest) ≡ below_heading old.has_header (lines_left old bytes))) before after

-- each line that was read is counted
abbrev pub CountsOn : Reading → Reading → Option (List ℕ) → Option (List ℕ) → Type 0
CountsOn old new before after = AsKnown (λ bytes rest. old.number + length (lines_left old bytes) ≡ new.number + length (lines_of (new.pending ++ rest))) before after

-- These lines were read, and the rows behind those that were there are theirs.
abbrev pub RowsOfLines : Reading → Reading → Batch → Batch → Option (List ℕ) → Option (List ℕ) → Type 0
RowsOfLines old new rows rows' before after =
    (order : List (Option ℕ)) × (taken : List TextLine) × (made : Batch) × (old.order ≡ Some order) × (rows' ≡ rows ++ made) × (rows_from old.dialect old.table.columns order (suc old.number) taken ≡ Ok made) × (new.number ≡ old.number + length taken)
    × AsKnown (λ bytes rest. lines_of (old.pending ++ bytes) ≡ taken ++ lines_of (new.pending ++ rest)) before after

-- Where the bytes are whole lines, so are those that are left; and whatever follows them, what is to come of all is the rows that were read
-- behind those that were there, and then what is to come of what follows.
abbrev pub GoesOn : Reading → Reading → Batch → Batch → Option (List ℕ) → Option (List ℕ) → Type 0
GoesOn old new rows rows' before after =
    (made : Batch) × (rows' ≡ rows ++ made)
    × AsKnown (λ bytes rest. EndsLine (old.pending ++ bytes) → AreWhole (new.pending ++ rest) × ((more : List ℕ) → to_come old (bytes ++ more) ≡ before_rows made (to_come new (rest ++ more)))) before after

-- where the bytes are whole lines, their first fault is that of the whole text, whatever follows them
abbrev pub RefusesOn : Reading → CsvError → Option (List ℕ) → Type 0
RefusesOn old (Refused refusal) before = Unit {0}
RefusesOn old fault before = AsKnown (λ bytes rest. EndsLine (old.pending ++ bytes) → (more : List ℕ) → to_come old (bytes ++ more) ≡ Err fault) before before

-- no line is left, so that what comes next begins a line
abbrev pub IsAtLine : Reading → Option (List ℕ) → Option (List ℕ) → Type 0
IsAtLine new before after = AsKnown (λ bytes rest. lines_of (new.pending ++ rest) ≡ []) before after

-- no rows are to come any more, and no fault
abbrev pub NothingToCome : Reading → Option (List ℕ) → Option (List ℕ) → Type 0
NothingToCome new before after = AsKnown (λ bytes rest. to_come new rest ≡ Ok []) before after

-- the text's first fault is this one; memory and the reader below are no fault of the text
abbrev pub Refuses : Reading → CsvError → Option (List ℕ) → Type 0
Refuses old (Refused refusal) before = Unit {0}
Refuses old fault before = AsKnown (λ bytes rest. to_come old bytes ≡ Err fault) before before

-- as many bytes came as are counted
abbrev pub Came : ℕ → ℕ → Option (List ℕ) → Option (List ℕ) → Type 0
Came given given' before after = AsKnown (λ bytes rest. given' + length rest ≡ given + length bytes) before after

-- how often the reader below had failed before and after a read that was refused: once more with ReadFault, unless many is what made
-- that; of the refusals only that one and Memory come
abbrev pub ReadCounts : Type 0 → Refusal → ℕ → ℕ → Type 0
ReadCounts many ReadFault before after = (after ≡ one_more before) ⊎ (many × (after ≡ before))
ReadCounts many Memory before after = after ≡ before
ReadCounts many other before after = ⊥

-- the same of an error; a fault of the text is no failure of the reader
abbrev pub Counts : Type 0 → CsvError → ℕ → ℕ → Type 0
Counts many (Refused refusal) before after = ReadCounts many refusal before after
Counts many fault before after = after ≡ before

-- A call read on: as many bytes came as are counted, and not more than are read at most unless more had come before; and how often the
-- reader below had failed is as it was, or after an error what counted says.
pub record ReadsOnward {D X E : Type 0} (remaining : D → Option (List ℕ)) (counted : Type 0 → E → ℕ → ℕ → Type 0) (given given' : ℕ) (old new : D × ℕ) (result : Result X E) : Type 0 where
  pub came : Came given given' (remaining old.0) (remaining new.0)
  pub within : OnOk result (given ≤ read_limit → given' ≤ read_limit)
  pub kept : OnOk result (new.1 ≡ old.1)
  pub counts : IfErr result (λ e. counted (read_limit < given') e old.1 new.1)
