-- What is to come of a whole text is what is to come of its lines, once its mark and its header are read.
use Rattle.std.specs.Prelude.{◌≡◌, ℕ, suc, Bool, true, false, List, [], ◌++◌, Option, Some, None, Ok, Err}
use Rattle.std.proofs.Common.{sym, ap, ◌∙◌}
use Rattle.table_model.specs.State.{Batch}
use Rattle.table_model.specs.Table.{ColumnShape}
use Rattle.csv_rows.specs.Line.{lines_of, unmarked}
use Rattle.csv_rows.specs.LinesForm.{LinesForm}
use Rattle.csv_rows.specs.DialectForm.{DialectForm}
use Rattle.csv_rows.specs.CsvText.{rows_from, before_rows, header_rows, lines_rows, rows_in, plain_order}
use Rattle.csv_rows.specs.Reading.{Reading, AsKnown, to_come, rows_after, Gave, NothingToCome, Refuses}
use Rattle.csv_rows.specs.RowReading.{lines_to_come, ReadsOn, NoLines, RefusesLines, RefusesHeader}
use Rattle.csv_rows.specs.declared.error.CsvError.{CsvError}
use Rattle.csv_rows.specs.declared.error.CsvError.TheVariants.{BadCsv, LineTooLong, Refused}
use Rattle.csv_rows.proofs.KnownFacts.{known_both, known_map, known_before}

-- before the order is known, all lines are to come
at_first : (csv : Reading) (header : Bool) (bytes : List ℕ) → csv.order ≡ None → csv.has_header ≡ header → to_come csv bytes ≡ lines_rows csv.dialect csv.table header (lines_of (unmarked (csv.pending ++ bytes)))
at_first csv header bytes none is = (λ i. rows_after csv (none i) (csv.pending ++ bytes)) ∙ ap (λ (h : Bool). rows_in csv.dialect csv.table h (csv.pending ++ bytes)) is

-- after it is known, the next lines are
at_lines : (csv : Reading) (order : List (Option ℕ)) (lines : LinesForm) (bytes : List ℕ) → csv.order ≡ Some order → csv.number ≡ lines.number → csv.pending ≡ lines.pending
    → to_come csv bytes ≡ lines_to_come csv.dialect csv.table.columns order lines bytes
at_lines csv order lines bytes some number pending =
    (λ i. rows_after csv (some i) (csv.pending ++ bytes)) ∙ (λ i. rows_from csv.dialect csv.table.columns order (suc (number i)) (lines_of (pending i ++ bytes)))

abbrev pub Unmarks : List ℕ → List ℕ → Option (List ℕ) → Option (List ℕ) → Type 0
Unmarks old new a b = AsKnown (λ bytes rest. unmarked (old ++ bytes) ≡ new ++ rest) a b

abbrev pub Same : Reading → Reading → Option (List ℕ) → Option (List ℕ) → Type 0
Same old new a b = AsKnown (λ bytes rest. to_come old bytes ≡ to_come new rest) a b

-- without a header
pub begins_plain : (old new : Reading) (a b : Option (List ℕ)) → old.order ≡ None → old.has_header ≡ false → new.order ≡ Some (plain_order old.dialect.order old.table.columns) → new.table ≡ old.table → new.dialect ≡ old.dialect → new.number ≡ 0
    → Unmarks old.pending new.pending a b → Same old new a b
begins_plain old new a b none plain some same alike first gone =
    known_map (λ bytes rest. unmarked (old.pending ++ bytes) ≡ new.pending ++ rest) (λ bytes rest. to_come old bytes ≡ to_come new rest)
    (λ x y p. at_first old false x none plain
    ∙ ap (λ (text : List ℕ). rows_from old.dialect old.table.columns (plain_order old.dialect.order old.table.columns) 1 (lines_of text)) p
    ∙ (λ i. rows_from (sym alike i) (sym same i).columns (plain_order old.dialect.order old.table.columns) (suc (sym first i)) (lines_of (new.pending ++ y)))
    ∙ (λ i. rows_after new (sym some i) (new.pending ++ y))) a b gone

-- with one
pub begins_headed : (old new : Reading) (order : List (Option ℕ)) (mid : List ℕ) (a b c : Option (List ℕ)) → old.order ≡ None → old.has_header ≡ true → new.order ≡ Some order → new.table ≡ old.table → new.dialect ≡ old.dialect → new.number ≡ 1
    → Unmarks old.pending mid a b → AsKnown (λ bytes rest. header_rows old.dialect old.table.columns (lines_of (mid ++ bytes)) ≡ rows_from old.dialect old.table.columns order 2 (lines_of (new.pending ++ rest))) b c
    → Same old new a c
begins_headed old new order mid a b c none headed some same alike first gone read =
    known_both (λ bytes rest. unmarked (old.pending ++ bytes) ≡ mid ++ rest) (λ bytes rest. header_rows old.dialect old.table.columns (lines_of (mid ++ bytes)) ≡ rows_from old.dialect old.table.columns order 2 (lines_of (new.pending ++ rest)))
    (λ bytes rest. to_come old bytes ≡ to_come new rest)
    (λ x y z p q. at_first old true x none headed
    ∙ ap (λ (text : List ℕ). header_rows old.dialect old.table.columns (lines_of text)) p
    ∙ q
    ∙ (λ i. rows_from (sym alike i) (sym same i).columns order (suc (sym first i)) (lines_of (new.pending ++ z)))
    ∙ (λ i. rows_after new (sym some i) (new.pending ++ z))) a b c gone read

refused_header : (old : Reading) (mid : List ℕ) (e : CsvError) (a b : Option (List ℕ)) → old.order ≡ None → old.has_header ≡ true → Unmarks old.pending mid a b
    → AsKnown (λ bytes rest. header_rows old.dialect old.table.columns (lines_of (mid ++ bytes)) ≡ Err e) b b → AsKnown (λ bytes rest. to_come old bytes ≡ Err e) a a
refused_header old mid e a b none headed gone fault =
    known_before (λ bytes rest. to_come old bytes ≡ Err e) (λ bytes rest. to_come old bytes ≡ Err e) (λ x y h. h) a b
    (known_both (λ bytes rest. unmarked (old.pending ++ bytes) ≡ mid ++ rest) (λ bytes rest. header_rows old.dialect old.table.columns (lines_of (mid ++ bytes)) ≡ Err e) (λ bytes rest. to_come old bytes ≡ Err e)
    (λ x y z p q. at_first old true x none headed ∙ ap (λ (text : List ℕ). header_rows old.dialect old.table.columns (lines_of text)) p ∙ q) a b b gone fault)

pub header_faults : (old : Reading) (mid : LinesForm) (e : CsvError) (a b : Option (List ℕ)) → old.order ≡ None → old.has_header ≡ true → Unmarks old.pending mid.pending a b → RefusesHeader old.dialect old.table.columns mid e b → Refuses old e a
header_faults old mid (Refused r) a b none headed gone fault = tt
header_faults old mid (BadCsv n column) a b none headed gone fault = refused_header old mid.pending (BadCsv n column) a b none headed gone fault
header_faults old mid (LineTooLong n) a b none headed gone fault = refused_header old mid.pending (LineTooLong n) a b none headed gone fault

-- rows that were read of lines are the next rows
pub gave_rows : (old new : Reading) (order : List (Option ℕ)) (lines lines' : LinesForm) (rows : Batch) (a b : Option (List ℕ)) → old.order ≡ Some order → new.order ≡ Some order → new.table ≡ old.table → new.dialect ≡ old.dialect
    → old.number ≡ lines.number → old.pending ≡ lines.pending → new.number ≡ lines'.number → new.pending ≡ lines'.pending
    → ReadsOn old.dialect old.table.columns order lines lines' [] rows a b → Gave old new rows a b
gave_rows old new order lines lines' rows a b some some' same alike number pending number' pending' read =
    known_map (λ bytes rest. lines_to_come old.dialect old.table.columns order lines bytes ≡ before_rows read.0 (lines_to_come old.dialect old.table.columns order lines' rest)) (λ bytes rest. to_come old bytes ≡ before_rows rows (to_come new rest))
    (λ x y p. at_lines old order lines x some number pending ∙ p
    ∙ (λ i. before_rows (sym read.1 i) (lines_to_come (sym alike i) (sym same i).columns order lines' y))
    ∙ ap (before_rows rows) (sym (at_lines new order lines' y some' number' pending'))) a b read.2

pub none_left : (new : Reading) (dialect : DialectForm) (columns : List ColumnShape) (order : List (Option ℕ)) (lines' : LinesForm) (a b : Option (List ℕ)) → new.order ≡ Some order → new.table.columns ≡ columns → new.dialect ≡ dialect → new.number ≡ lines'.number → new.pending ≡ lines'.pending
    → NoLines dialect columns order lines' a b → NothingToCome new a b
none_left new dialect columns order lines' a b some same alike number pending none =
    known_map (λ bytes rest. lines_to_come dialect columns order lines' rest ≡ Ok []) (λ bytes rest. to_come new rest ≡ Ok [])
    (λ x y p. at_lines new order lines' y some number pending ∙ (λ i. lines_to_come (alike i) (same i) order lines' y) ∙ p) a b none

refused_lines : (old : Reading) (order : List (Option ℕ)) (lines : LinesForm) (e : CsvError) (a : Option (List ℕ)) → old.order ≡ Some order → old.number ≡ lines.number → old.pending ≡ lines.pending
    → AsKnown (λ bytes rest. lines_to_come old.dialect old.table.columns order lines bytes ≡ Err e) a a → AsKnown (λ bytes rest. to_come old bytes ≡ Err e) a a
refused_lines old order lines e a some number pending fault =
    known_map (λ bytes rest. lines_to_come old.dialect old.table.columns order lines bytes ≡ Err e) (λ bytes rest. to_come old bytes ≡ Err e) (λ x y p. at_lines old order lines x some number pending ∙ p) a a fault

pub lines_fault : (old : Reading) (order : List (Option ℕ)) (lines : LinesForm) (e : CsvError) (a : Option (List ℕ)) → old.order ≡ Some order → old.number ≡ lines.number → old.pending ≡ lines.pending
    → RefusesLines old.dialect old.table.columns order lines e a → Refuses old e a
lines_fault old order lines (Refused r) a some number pending fault = tt
lines_fault old order lines (BadCsv n column) a some number pending fault = refused_lines old order lines (BadCsv n column) a some number pending fault
lines_fault old order lines (LineTooLong n) a some number pending fault = refused_lines old order lines (LineTooLong n) a some number pending fault

-- a call after the one that began
pub gave_after : (old mid new : Reading) (rows : Batch) (a b c : Option (List ℕ)) → Same old mid a b → Gave mid new rows b c → Gave old new rows a c
gave_after old mid new rows a b c begun gave =
    known_both (λ bytes rest. to_come old bytes ≡ to_come mid rest) (λ bytes rest. to_come mid bytes ≡ before_rows rows (to_come new rest)) (λ bytes rest. to_come old bytes ≡ before_rows rows (to_come new rest)) (λ x y z p q. p ∙ q) a b c begun gave

pub none_after_begin : (old mid new : Reading) (a b c : Option (List ℕ)) → Same old mid a b → NothingToCome new b c → NothingToCome new a c
none_after_begin old mid new a b c begun none =
    known_both (λ bytes rest. to_come old bytes ≡ to_come mid rest) (λ bytes rest. to_come new rest ≡ Ok []) (λ bytes rest. to_come new rest ≡ Ok []) (λ x y z p q. q) a b c begun none

fault_of : (old mid : Reading) (e : CsvError) (a b : Option (List ℕ)) → Same old mid a b → AsKnown (λ bytes rest. to_come mid bytes ≡ Err e) b b → AsKnown (λ bytes rest. to_come old bytes ≡ Err e) a a
fault_of old mid e a b begun fault =
    known_before (λ bytes rest. to_come old bytes ≡ Err e) (λ bytes rest. to_come old bytes ≡ Err e) (λ x y h. h) a b
    (known_both (λ bytes rest. to_come old bytes ≡ to_come mid rest) (λ bytes rest. to_come mid bytes ≡ Err e) (λ bytes rest. to_come old bytes ≡ Err e) (λ x y z p q. p ∙ q) a b b begun fault)

pub fault_after_begin : (old mid : Reading) (e : CsvError) (a b : Option (List ℕ)) → Same old mid a b → Refuses mid e b → Refuses old e a
fault_after_begin old mid (Refused r) a b begun fault = tt
fault_after_begin old mid (BadCsv n column) a b begun fault = fault_of old mid (BadCsv n column) a b begun fault
fault_after_begin old mid (LineTooLong n) a b begun fault = fault_of old mid (LineTooLong n) a b begun fault
