-- The rows that are to come, told further with each line that is read.
use Rattle.std.specs.Prelude.{◌≡◌, ◌⊎◌, ℕ, suc, List, [], ◌∷◌, ◌++◌, Option, Result, Ok, Err}
use Rattle.std.proofs.Common.{refl, sym, ap, ◌∙◌, append_assoc, inl, inr}
use Rattle.table_model.specs.State.{Batch}
use Rattle.table_model.specs.Table.{ColumnShape}
use Rattle.table_model.specs.declared.refusal.Refusal.TheVariants.{Memory}
use Rattle.csv_rows.specs.Line.{TextLine, lines_of}
use Rattle.csv_rows.specs.LinesForm.{LinesForm}
use Rattle.csv_rows.specs.LineReading.{FirstTooLong}
use Rattle.csv_rows.specs.DialectForm.{DialectForm}
use Rattle.csv_rows.specs.CsvText.{◌>>=◌, line_rows, before_rows, rows_from, header_order, header_rows}
use Rattle.csv_rows.specs.Reading.{AsKnown}
use Rattle.csv_rows.specs.RowReading.{lines_to_come, ReadsOn, NoLines, RefusesLines, RefusesHeader, IsBetweenLines}
use Rattle.csv_rows.specs.declared.error.CsvError.{CsvError}
use Rattle.csv_rows.specs.declared.error.CsvError.TheVariants.{BadCsv, LineTooLong, Refused}
use Rattle.csv_rows.proofs.KnownFacts.{known_both, known_map, known_before, known_self}
use Rattle.csv_rows.proofs.RowFacts.{before_both, before_nothing, first_rows, first_fault, too_long, header_too_long}

-- the next line
abbrev pub Next : LinesForm → LinesForm → TextLine → Option (List ℕ) → Option (List ℕ) → Type 0
Next old new line a b = AsKnown (λ bytes rest. lines_of (old.pending ++ bytes) ≡ line ∷ lines_of (new.pending ++ rest)) a b

abbrev Makes : DialectForm → List ColumnShape → List (Option ℕ) → LinesForm → LinesForm → Batch → Option (List ℕ) → Option (List ℕ) → Type 0
Makes dialect columns order old new made a b = AsKnown (λ bytes rest. lines_to_come dialect columns order old bytes ≡ before_rows made (lines_to_come dialect columns order new rest)) a b

pub line_read : (dialect : DialectForm) (columns : List ColumnShape) (order : List (Option ℕ)) (old new : LinesForm) (line : TextLine) (made : Batch) (a b : Option (List ℕ)) → new.number ≡ suc old.number → Next old new line a b
    → line_rows dialect columns order new.number line ≡ Ok made → Makes dialect columns order old new made a b
line_read dialect columns order old new line made a b more next e =
    known_map (λ bytes rest. lines_of (old.pending ++ bytes) ≡ line ∷ lines_of (new.pending ++ rest)) (λ bytes rest. lines_to_come dialect columns order old bytes ≡ before_rows made (lines_to_come dialect columns order new rest))
    (λ x y p. ap (rows_from dialect columns order (suc old.number)) p
    ∙ first_rows dialect columns order (suc old.number) line (lines_of (new.pending ++ y)) made (ap (λ (n : ℕ). line_rows dialect columns order n line) (sym more) ∙ e)
    ∙ ap (λ (n : ℕ). before_rows made (rows_from dialect columns order (suc n) (lines_of (new.pending ++ y)))) (sym more)) a b next

pub no_rows : (dialect : DialectForm) (columns : List ColumnShape) (order : List (Option ℕ)) (old new : LinesForm) (a b : Option (List ℕ)) → new.number ≡ old.number
    → AsKnown (λ bytes rest. (lines_of (old.pending ++ bytes) ≡ []) × (lines_of (new.pending ++ rest) ≡ [])) a b
    → Makes dialect columns order old new [] a b × NoLines dialect columns order new a b
no_rows dialect columns order old new a b same none = (
  known_map (λ bytes rest. (lines_of (old.pending ++ bytes) ≡ []) × (lines_of (new.pending ++ rest) ≡ [])) (λ bytes rest. lines_to_come dialect columns order old bytes ≡ before_rows [] (lines_to_come dialect columns order new rest))
      (λ x y p. ap (rows_from dialect columns order (suc old.number)) p.0 ∙ sym (ap (λ (lines : List TextLine). before_rows [] (rows_from dialect columns order (suc new.number) lines)) p.1)) a b none,
  known_map (λ bytes rest. (lines_of (old.pending ++ bytes) ≡ []) × (lines_of (new.pending ++ rest) ≡ [])) (λ bytes rest. lines_to_come dialect columns order new rest ≡ Ok [])
      (λ x y p. ap (rows_from dialect columns order (suc new.number)) p.1) a b none,
)

refused_by : (dialect : DialectForm) (columns : List ColumnShape) (order : List (Option ℕ)) (old new : LinesForm) (line : TextLine) (e : CsvError) (a b : Option (List ℕ)) → new.number ≡ suc old.number → Next old new line a b
    → line_rows dialect columns order new.number line ≡ Err e → AsKnown (λ bytes rest. lines_to_come dialect columns order old bytes ≡ Err e) a a
refused_by dialect columns order old new line e a b more next fault =
    known_before (λ bytes rest. lines_of (old.pending ++ bytes) ≡ line ∷ lines_of (new.pending ++ rest)) (λ bytes rest. lines_to_come dialect columns order old bytes ≡ Err e)
    (λ x y p. ap (rows_from dialect columns order (suc old.number)) p ∙ first_fault dialect columns order (suc old.number) line (lines_of (new.pending ++ y)) e (ap (λ (n : ℕ). line_rows dialect columns order n line) (sym more) ∙ fault)) a b next

pub line_refused : (dialect : DialectForm) (columns : List ColumnShape) (order : List (Option ℕ)) (old new : LinesForm) (line : TextLine) (e : CsvError) (a b : Option (List ℕ)) → new.number ≡ suc old.number → Next old new line a b
    → (line_rows dialect columns order new.number line ≡ Err e) ⊎ (e ≡ Refused Memory) → RefusesLines dialect columns order old e a
line_refused dialect columns order old new line (Refused r) a b more next fault = tt
line_refused dialect columns order old new line (BadCsv n column) a b more next (inr lack) = cc
line_refused dialect columns order old new line (LineTooLong n) a b more next (inr lack) = cc
line_refused dialect columns order old new line (BadCsv n column) a b more next (inl fault) = refused_by dialect columns order old new line (BadCsv n column) a b more next fault
line_refused dialect columns order old new line (LineTooLong n) a b more next (inl fault) = refused_by dialect columns order old new line (LineTooLong n) a b more next fault

pub line_too_long : (dialect : DialectForm) (columns : List ColumnShape) (order : List (Option ℕ)) (old : LinesForm) (n : ℕ) (a b : Option (List ℕ)) → n ≡ suc old.number → AsKnown (λ bytes rest. FirstTooLong (lines_of (old.pending ++ bytes))) a b
    → RefusesLines dialect columns order old (LineTooLong n) a
line_too_long dialect columns order old n a b is long =
    known_before (λ bytes rest. FirstTooLong (lines_of (old.pending ++ bytes))) (λ bytes rest. lines_to_come dialect columns order old bytes ≡ Err (LineTooLong n))
    (λ x y p. too_long dialect columns order (suc old.number) (lines_of (old.pending ++ x)) p ∙ ap (λ (k : ℕ). Err (LineTooLong k)) (sym is)) a b long

-- rows behind rows
pub reads_start : (dialect : DialectForm) (columns : List ColumnShape) (order : List (Option ℕ)) (lines : LinesForm) (a : Option (List ℕ)) → ReadsOn dialect columns order lines lines [] [] a a
reads_start dialect columns order lines a = ([], refl, known_self (λ bytes rest. lines_to_come dialect columns order lines bytes ≡ before_rows [] (lines_to_come dialect columns order lines rest)) (λ x. sym (before_nothing (lines_to_come dialect columns order lines x))) a)

pub reads_both : (dialect : DialectForm) (columns : List ColumnShape) (order : List (Option ℕ)) (first old new : LinesForm) (none rows rows' : Batch) (a b c : Option (List ℕ)) → ReadsOn dialect columns order first old none rows a b → ReadsOn dialect columns order old new rows rows' b c
    → ReadsOn dialect columns order first new none rows' a c
reads_both dialect columns order first old new none rows rows' a b c p q = (
  p.0 ++ q.0,
  q.1 ∙ ap (λ (r : Batch). r ++ q.0) p.1 ∙ append_assoc none p.0 q.0,
  known_both (λ bytes rest. lines_to_come dialect columns order first bytes ≡ before_rows p.0 (lines_to_come dialect columns order old rest)) (λ bytes rest. lines_to_come dialect columns order old bytes ≡ before_rows q.0 (lines_to_come dialect columns order new rest))
      (λ bytes rest. lines_to_come dialect columns order first bytes ≡ before_rows (p.0 ++ q.0) (lines_to_come dialect columns order new rest))
      (λ x y z f g. f ∙ ap (before_rows p.0) g ∙ before_both p.0 q.0 (lines_to_come dialect columns order new z)) a b c p.2 q.2,
)

refused_after : (dialect : DialectForm) (columns : List ColumnShape) (order : List (Option ℕ)) (first old : LinesForm) (made : Batch) (e : CsvError) (a b : Option (List ℕ)) → Makes dialect columns order first old made a b
    → AsKnown (λ bytes rest. lines_to_come dialect columns order old bytes ≡ Err e) b b → AsKnown (λ bytes rest. lines_to_come dialect columns order first bytes ≡ Err e) a a
refused_after dialect columns order first old made e a b p q =
    known_before (λ bytes rest. lines_to_come dialect columns order first bytes ≡ Err e) (λ bytes rest. lines_to_come dialect columns order first bytes ≡ Err e) (λ x y h. h) a b
    (known_both (λ bytes rest. lines_to_come dialect columns order first bytes ≡ before_rows made (lines_to_come dialect columns order old rest)) (λ bytes rest. lines_to_come dialect columns order old bytes ≡ Err e) (λ bytes rest. lines_to_come dialect columns order first bytes ≡ Err e)
    (λ x y z f g. f ∙ ap (before_rows made) g) a b b p q)

-- a fault after rows is the first fault
pub fault_after : (dialect : DialectForm) (columns : List ColumnShape) (order : List (Option ℕ)) (first old : LinesForm) (none rows : Batch) (e : CsvError) (a b : Option (List ℕ)) → ReadsOn dialect columns order first old none rows a b → RefusesLines dialect columns order old e b
    → RefusesLines dialect columns order first e a
fault_after dialect columns order first old none rows (Refused r) a b p q = tt
fault_after dialect columns order first old none rows (BadCsv n column) a b p q = refused_after dialect columns order first old p.0 (BadCsv n column) a b p.2 q
fault_after dialect columns order first old none rows (LineTooLong n) a b p q = refused_after dialect columns order first old p.0 (LineTooLong n) a b p.2 q

-- nothing to come, seen from the start of a call
pub none_after : (dialect : DialectForm) (columns : List ColumnShape) (order : List (Option ℕ)) (first old new : LinesForm) (made : Batch) (a b c : Option (List ℕ)) → Makes dialect columns order first old made a b → NoLines dialect columns order new b c → NoLines dialect columns order new a c
none_after dialect columns order first old new made a b c p q =
    known_both (λ bytes rest. lines_to_come dialect columns order first bytes ≡ before_rows made (lines_to_come dialect columns order old rest)) (λ bytes rest. lines_to_come dialect columns order new rest ≡ Ok []) (λ bytes rest. lines_to_come dialect columns order new rest ≡ Ok [])
    (λ x y z f g. g) a b c p q

-- the header
pub header_read : (dialect : DialectForm) (columns : List ColumnShape) (order : List (Option ℕ)) (old new : LinesForm) (line : TextLine) (a b : Option (List ℕ)) → Next old new line a b → header_order dialect columns line ≡ Ok order
    → AsKnown (λ bytes rest. header_rows dialect columns (lines_of (old.pending ++ bytes)) ≡ rows_from dialect columns order 2 (lines_of (new.pending ++ rest))) a b
header_read dialect columns order old new line a b next e =
    known_map (λ bytes rest. lines_of (old.pending ++ bytes) ≡ line ∷ lines_of (new.pending ++ rest)) (λ bytes rest. header_rows dialect columns (lines_of (old.pending ++ bytes)) ≡ rows_from dialect columns order 2 (lines_of (new.pending ++ rest)))
    (λ x y p. ap (header_rows dialect columns) p ∙ ap (λ (r : Result (List (Option ℕ)) CsvError). r >>= (λ o. rows_from dialect columns o 2 (lines_of (new.pending ++ y)))) e) a b next

header_by : (dialect : DialectForm) (columns : List ColumnShape) (old new : LinesForm) (line : TextLine) (e : CsvError) (a b : Option (List ℕ)) → Next old new line a b → header_order dialect columns line ≡ Err e
    → AsKnown (λ bytes rest. header_rows dialect columns (lines_of (old.pending ++ bytes)) ≡ Err e) a a
header_by dialect columns old new line e a b next fault =
    known_before (λ bytes rest. lines_of (old.pending ++ bytes) ≡ line ∷ lines_of (new.pending ++ rest)) (λ bytes rest. header_rows dialect columns (lines_of (old.pending ++ bytes)) ≡ Err e)
    (λ x y p. ap (header_rows dialect columns) p ∙ ap (λ (r : Result (List (Option ℕ)) CsvError). r >>= (λ o. rows_from dialect columns o 2 (lines_of (new.pending ++ y)))) fault) a b next

pub header_refused : (dialect : DialectForm) (columns : List ColumnShape) (old new : LinesForm) (line : TextLine) (e : CsvError) (a b : Option (List ℕ)) → Next old new line a b → (header_order dialect columns line ≡ Err e) ⊎ (e ≡ Refused Memory) → RefusesHeader dialect columns old e a
header_refused dialect columns old new line (Refused r) a b next fault = tt
header_refused dialect columns old new line (BadCsv n column) a b next (inr lack) = cc
header_refused dialect columns old new line (LineTooLong n) a b next (inr lack) = cc
header_refused dialect columns old new line (BadCsv n column) a b next (inl fault) = header_by dialect columns old new line (BadCsv n column) a b next fault
header_refused dialect columns old new line (LineTooLong n) a b next (inl fault) = header_by dialect columns old new line (LineTooLong n) a b next fault

pub header_long : (dialect : DialectForm) (columns : List ColumnShape) (old : LinesForm) (a b : Option (List ℕ)) → AsKnown (λ bytes rest. FirstTooLong (lines_of (old.pending ++ bytes))) a b → RefusesHeader dialect columns old (LineTooLong 1) a
header_long dialect columns old a b long =
    known_before (λ bytes rest. FirstTooLong (lines_of (old.pending ++ bytes))) (λ bytes rest. header_rows dialect columns (lines_of (old.pending ++ bytes)) ≡ Err (LineTooLong 1))
    (λ x y p. header_too_long dialect columns (lines_of (old.pending ++ x)) p) a b long

pub header_none : (dialect : DialectForm) (columns : List ColumnShape) (old new : LinesForm) (a b : Option (List ℕ)) → AsKnown (λ bytes rest. (lines_of (old.pending ++ bytes) ≡ []) × (lines_of (new.pending ++ rest) ≡ [])) a b → RefusesHeader dialect columns old (BadCsv 1 0) a
header_none dialect columns old new a b none =
    known_before (λ bytes rest. (lines_of (old.pending ++ bytes) ≡ []) × (lines_of (new.pending ++ rest) ≡ [])) (λ bytes rest. header_rows dialect columns (lines_of (old.pending ++ bytes)) ≡ Err (BadCsv 1 0))
    (λ x y p. ap (header_rows dialect columns) p.0) a b none

-- no line is left
pub none_between : (old new : LinesForm) (a b : Option (List ℕ)) → AsKnown (λ bytes rest. (lines_of (old.pending ++ bytes) ≡ []) × (lines_of (new.pending ++ rest) ≡ [])) a b → IsBetweenLines new a b
none_between old new a b none =
    known_map (λ bytes rest. (lines_of (old.pending ++ bytes) ≡ []) × (lines_of (new.pending ++ rest) ≡ [])) (λ bytes rest. lines_of (new.pending ++ rest) ≡ []) (λ x y p. p.1) a b none

pub between_after : (dialect : DialectForm) (columns : List ColumnShape) (order : List (Option ℕ)) (first old new : LinesForm) (none rows : Batch) (a b c : Option (List ℕ)) → ReadsOn dialect columns order first old none rows a b → IsBetweenLines new b c → IsBetweenLines new a c
between_after dialect columns order first old new none rows a b c p q =
    known_both (λ bytes rest. lines_to_come dialect columns order first bytes ≡ before_rows p.0 (lines_to_come dialect columns order old rest)) (λ bytes rest. lines_of (new.pending ++ rest) ≡ []) (λ bytes rest. lines_of (new.pending ++ rest) ≡ [])
    (λ x y z f g. g) a b c p.2 q
