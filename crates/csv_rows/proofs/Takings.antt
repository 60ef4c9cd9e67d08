-- The lines that were read one after another, the rows that they made, and what is to come of a text that goes on behind them.
use Rattle.std.specs.Prelude.{◌≡◌, ℕ, suc, ◌+◌, Bool, true, false, List, [], ◌∷◌, ◌++◌, length, Option, Some, None, Result, Ok, Err}
use Rattle.std.proofs.Common.{refl, sym, ap, ◌∙◌, append_assoc, arith}
use Rattle.std.proofs.lemmas.List.{append-nil, length-append}
use Rattle.table_model.specs.State.{Batch}
use Rattle.table_model.specs.Table.{Table, ColumnShape}
use Rattle.csv_rows.specs.Line.{TextLine, lines_of, unmarked, EndsLine, AreWhole}
use Rattle.csv_rows.specs.LinesForm.{LinesForm}
use Rattle.csv_rows.specs.DialectForm.{DialectForm}
use Rattle.csv_rows.specs.CsvText.{◌>>=◌, line_rows, before_rows, rows_from, lines_rows, heading_order, below_heading, headings, plain_order}
use Rattle.csv_rows.specs.CutTexts.{Place, rows_behind}
use Rattle.csv_rows.specs.Reading.{Reading, AsKnown, RowsOfLines, Begins, Began, CountsOn, GoesOn, IsAtLine, RefusesOn, Refuses, text_after, lines_left, order_given, rows_after, to_come}
use Rattle.csv_rows.specs.RowReading.{lines_to_come, ReadsOn, TakesLines, ReadsHeading}
use Rattle.csv_rows.specs.declared.error.CsvError.{CsvError}
use Rattle.csv_rows.specs.declared.error.CsvError.TheVariants.{BadCsv, LineTooLong, Refused}
use Rattle.csv_rows.proofs.Begins.{Unmarks, Same}
use Rattle.csv_rows.proofs.Cuts.{rows_both}
use Rattle.csv_rows.proofs.CutTexts.{fault_stays}
use Rattle.csv_rows.proofs.KnownFacts.{known_both, known_map, known_before, known_self}
use Rattle.csv_rows.proofs.RowFacts.{before_nothing}
use Rattle.csv_rows.proofs.Steps.{Next}
use Rattle.csv_rows.proofs.Wholes.{lines_on, unmarked_ends, unmarked_on, ended_lines, below_ended, whole_left, rows_on, rows_below}

-- ---- lines

pub takes_start : (dialect : DialectForm) (columns : List ColumnShape) (order : List (Option ℕ)) (lines : LinesForm) (rows : Batch) (a : Option (List ℕ)) → TakesLines dialect columns order lines lines rows rows a a
takes_start dialect columns order lines rows a =
    let same : lines.number ≡ lines.number + 0 = omega arith in (
      [],
      [],
      sym (append-nil rows),
      refl,
      same,
      known_self (λ bytes rest. lines_of (lines.pending ++ bytes) ≡ lines_of (lines.pending ++ rest)) (λ x. refl) a,
    )

pub reads_begin : (dialect : DialectForm) (columns : List ColumnShape) (order : List (Option ℕ)) (lines : LinesForm) (rows : Batch) (a : Option (List ℕ)) → ReadsOn dialect columns order lines lines rows rows a a
reads_begin dialect columns order lines rows a = (
  [],
  sym (append-nil rows),
  known_self (λ bytes rest. lines_to_come dialect columns order lines bytes ≡ before_rows [] (lines_to_come dialect columns order lines rest)) (λ x. sym (before_nothing (lines_to_come dialect columns order lines x))) a,
)

-- a line was read
pub takes_line : (dialect : DialectForm) (columns : List ColumnShape) (order : List (Option ℕ)) (old new : LinesForm) (line : TextLine) (made rows rows' : Batch) (a b : Option (List ℕ)) → new.number ≡ suc old.number → Next old new line a b
    → line_rows dialect columns order new.number line ≡ Ok made → rows' ≡ rows ++ made → TakesLines dialect columns order old new rows rows' a b
takes_line dialect columns order old new line made rows rows' a b more next e is =
    let counted : new.number ≡ old.number + 1 = omega (arith, more) in (
      line ∷ [],
      made,
      is,
      ap (λ (r : Result Batch CsvError). r >>= (λ rows. before_rows rows (Ok []))) (ap (λ (n : ℕ). line_rows dialect columns order n line) (sym more) ∙ e) ∙ ap Ok (append-nil made),
      counted,
      next,
    )

-- there was no line
pub takes_none : (dialect : DialectForm) (columns : List ColumnShape) (order : List (Option ℕ)) (old new : LinesForm) (rows : Batch) (a b : Option (List ℕ)) → new.number ≡ old.number
    → AsKnown (λ bytes rest. (lines_of (old.pending ++ bytes) ≡ []) × (lines_of (new.pending ++ rest) ≡ [])) a b → TakesLines dialect columns order old new rows rows a b
takes_none dialect columns order old new rows a b same none =
    let counted : new.number ≡ old.number + 0 = omega (arith, same) in (
      [],
      [],
      sym (append-nil rows),
      refl,
      counted,
      known_map (λ bytes rest. (lines_of (old.pending ++ bytes) ≡ []) × (lines_of (new.pending ++ rest) ≡ [])) (λ bytes rest. lines_of (old.pending ++ bytes) ≡ lines_of (new.pending ++ rest)) (λ x y p. p.0 ∙ sym p.1) a b none,
    )

pub takes_both : (dialect : DialectForm) (columns : List ColumnShape) (order : List (Option ℕ)) (first old new : LinesForm) (none rows rows' : Batch) (a b c : Option (List ℕ)) → TakesLines dialect columns order first old none rows a b
    → TakesLines dialect columns order old new rows rows' b c → TakesLines dialect columns order first new none rows' a c
takes_both dialect columns order first old new none rows rows' a b c p q =
    let counted : new.number ≡ first.number + length (p.0 ++ q.0) = omega (arith, p.4, q.4, length-append p.0 q.0) in
    let from : suc first.number + length p.0 ≡ suc old.number = omega (arith, p.4) in (
      p.0 ++ q.0,
      p.1 ++ q.1,
      q.2 ∙ ap (λ (r : Batch). r ++ q.1) p.2 ∙ append_assoc none p.1 q.1,
      rows_both dialect columns order (suc first.number) p.0 q.0
          ∙ ap (λ (r : Result Batch CsvError). r >>= (λ rows. before_rows rows (rows_from dialect columns order (suc first.number + length p.0) q.0))) p.3
          ∙ ap (λ (n : ℕ). before_rows p.1 (rows_from dialect columns order n q.0)) from
          ∙ ap (before_rows p.1) q.3,
      counted,
      known_both (λ bytes rest. lines_of (first.pending ++ bytes) ≡ p.0 ++ lines_of (old.pending ++ rest)) (λ bytes rest. lines_of (old.pending ++ bytes) ≡ q.0 ++ lines_of (new.pending ++ rest))
          (λ bytes rest. lines_of (first.pending ++ bytes) ≡ (p.0 ++ q.0) ++ lines_of (new.pending ++ rest)) (λ x y z f g. f ∙ ap (λ (ls : List TextLine). p.0 ++ ls) g ∙ sym (append_assoc p.0 q.0 (lines_of (new.pending ++ z)))) a b c p.5 q.5,
    )

-- ---- the same of a reader of rows

pub takes_rows : (old new : Reading) (order : List (Option ℕ)) (lines lines' : LinesForm) (rows rows' : Batch) (a b : Option (List ℕ)) → old.order ≡ Some order → old.number ≡ lines.number → old.pending ≡ lines.pending → new.number ≡ lines'.number → new.pending ≡ lines'.pending
    → TakesLines old.dialect old.table.columns order lines lines' rows rows' a b → RowsOfLines old new rows rows' a b
takes_rows old new order lines lines' rows rows' a b some number pending number' pending' taken = (
  order,
  taken.0,
  taken.1,
  some,
  taken.2,
  ap (λ (n : ℕ). rows_from old.dialect old.table.columns order (suc n) taken.0) number ∙ taken.3,
  number' ∙ taken.4 ∙ ap (λ (n : ℕ). n + length taken.0) (sym number),
  known_map (λ bytes rest. lines_of (lines.pending ++ bytes) ≡ taken.0 ++ lines_of (lines'.pending ++ rest)) (λ bytes rest. lines_of (old.pending ++ bytes) ≡ taken.0 ++ lines_of (new.pending ++ rest))
      (λ x y p. ap (λ (t : List ℕ). lines_of (t ++ x)) pending ∙ p ∙ ap (λ (t : List ℕ). taken.0 ++ lines_of (t ++ y)) (sym pending')) a b taken.5,
)

-- what is to come of a reader whose order is known, or isn't
come_some : (csv : Reading) (order : List (Option ℕ)) (bytes : List ℕ) → csv.order ≡ Some order → to_come csv bytes ≡ rows_from csv.dialect csv.table.columns order (suc csv.number) (lines_of (csv.pending ++ bytes))
come_some csv order bytes some = (λ i. rows_after csv (some i) (csv.pending ++ bytes))

come_none : (csv : Reading) (bytes : List ℕ) → csv.order ≡ None → to_come csv bytes ≡ lines_rows csv.dialect csv.table csv.has_header (lines_of (unmarked (csv.pending ++ bytes)))
come_none csv bytes none = (λ i. rows_after csv (none i) (csv.pending ++ bytes))

left_none : (csv : Reading) (bytes : List ℕ) → csv.order ≡ None → lines_left csv bytes ≡ lines_of (unmarked (csv.pending ++ bytes))
left_none csv bytes none = (λ i. lines_of (text_after (none i) (csv.pending ++ bytes)))

left_some : (csv : Reading) (order : List (Option ℕ)) (bytes : List ℕ) → csv.order ≡ Some order → lines_left csv bytes ≡ lines_of (csv.pending ++ bytes)
left_some csv order bytes some = (λ i. lines_of (text_after (some i) (csv.pending ++ bytes)))

-- what comes next of a reader, where it was read on from a reader of the same text
come_next : (old new : Reading) (order : List (Option ℕ)) (k : ℕ) (bytes : List ℕ) → new.order ≡ Some order → new.table ≡ old.table → new.dialect ≡ old.dialect → new.number ≡ k
    → rows_from old.dialect old.table.columns order (suc k) (lines_of (new.pending ++ bytes)) ≡ to_come new bytes
come_next old new order k bytes some same alike number =
    (λ i. rows_from (sym alike i) (sym same i).columns order (suc (sym number i)) (lines_of (new.pending ++ bytes))) ∙ sym (come_some new order bytes some)

-- a later piece
pub goes_later : (old new : Reading) (rows rows' : Batch) (a b : Option (List ℕ)) → new.order ≡ old.order → new.table ≡ old.table → new.dialect ≡ old.dialect → RowsOfLines old new rows rows' a b → GoesOn old new rows rows' a b
goes_later old new rows rows' a b kept same alike takes = (
  takes.2,
  takes.4,
  known_map (λ bytes rest. lines_of (old.pending ++ bytes) ≡ takes.1 ++ lines_of (new.pending ++ rest))
      (λ bytes rest. EndsLine (old.pending ++ bytes) → AreWhole (new.pending ++ rest) × ((more : List ℕ) → to_come old (bytes ++ more) ≡ before_rows takes.2 (to_come new (rest ++ more)))) (λ x y p ends. (
        whole x y p ends,
        λ more. come_some old takes.0 (x ++ more) takes.3
            ∙ ap (λ (t : List ℕ). rows_from old.dialect old.table.columns takes.0 (suc old.number) (lines_of t)) (sym (append_assoc old.pending x more))
            ∙ ap (rows_from old.dialect old.table.columns takes.0 (suc old.number)) (lines_on (old.pending ++ x) more ends)
            ∙ rows_on old.dialect old.table.columns takes.0 old.number (old.number + length takes.1) (lines_of (old.pending ++ x)) takes.1 (new.pending ++ y) more takes.2 (whole x y p ends) p takes.5 refl
            ∙ ap (λ (t : List ℕ). before_rows takes.2 (rows_from old.dialect old.table.columns takes.0 (suc (old.number + length takes.1)) (lines_of t))) (append_assoc new.pending y more)
            ∙ ap (before_rows takes.2) (come_next old new takes.0 (old.number + length takes.1) (y ++ more) (kept ∙ takes.3) same alike takes.6),
      )) a b takes.7,
) where
  whole : (x y : List ℕ) → lines_of (old.pending ++ x) ≡ takes.1 ++ lines_of (new.pending ++ y) → EndsLine (old.pending ++ x) → AreWhole (new.pending ++ y)
  whole x y p ends = whole_left (lines_of (old.pending ++ x)) takes.1 (new.pending ++ y) (ended_lines (old.pending ++ x) ends) p

-- ---- the first piece

-- the first lines of a text, which began, and those that were read behind its header
abbrev pub First : Reading → Reading → List (Option ℕ) → List TextLine → Option (List ℕ) → Option (List ℕ) → Type 0
First old new order taken a b =
    AsKnown (λ bytes rest. (heading_order old.dialect old.table old.has_header (lines_left old bytes) ≡ Ok order) × (below_heading old.has_header (lines_left old bytes) ≡ taken ++ lines_of (new.pending ++ rest))) a b

first_lines : (old mid new : Reading) (order : List (Option ℕ)) (taken : List TextLine) (a b c : Option (List ℕ))
    → AsKnown (λ bytes rest. (heading_order old.dialect old.table old.has_header (lines_left old bytes) ≡ Ok order) × (lines_of (mid.pending ++ rest) ≡ below_heading old.has_header (lines_left old bytes))) a b
    → AsKnown (λ bytes rest. lines_of (mid.pending ++ bytes) ≡ taken ++ lines_of (new.pending ++ rest)) b c → First old new order taken a c
first_lines old mid new order taken a b c p q =
    known_both (λ bytes rest. (heading_order old.dialect old.table old.has_header (lines_left old bytes) ≡ Ok order) × (lines_of (mid.pending ++ rest) ≡ below_heading old.has_header (lines_left old bytes)))
    (λ bytes rest. lines_of (mid.pending ++ bytes) ≡ taken ++ lines_of (new.pending ++ rest))
    (λ bytes rest. (heading_order old.dialect old.table old.has_header (lines_left old bytes) ≡ Ok order) × (below_heading old.has_header (lines_left old bytes) ≡ taken ++ lines_of (new.pending ++ rest)))
    (λ x y z f g. (f.0, sym f.1 ∙ g)) a b c p q

pub goes_first : (old mid new : Reading) (rows rows' : Batch) (a b c : Option (List ℕ)) → old.order ≡ None → mid.table ≡ old.table → mid.dialect ≡ old.dialect → new.order ≡ mid.order → new.table ≡ mid.table → new.dialect ≡ mid.dialect
    → Begins old mid a b → RowsOfLines mid new rows rows' b c → GoesOn old new rows rows' a c
goes_first old mid new rows rows' a b c none same alike kept same' alike' begins takes =
    let order : List (Option ℕ) = begins.0 in
    let is : takes.0 ≡ order = (let both : Some takes.0 ≡ Some order = sym takes.3 ∙ begins.1 in cc) in
    let read : rows_from old.dialect old.table.columns order (suc (headings old.has_header)) takes.1 ≡ Ok takes.2 =
    (λ i. rows_from (sym alike i) (sym same i).columns (sym is i) (suc (sym begins.2 i)) takes.1) ∙ takes.5 in
    let counted : new.number ≡ headings old.has_header + length takes.1 = takes.6 ∙ ap (λ (n : ℕ). n + length takes.1) begins.2 in (
      takes.2,
      takes.4,
      known_map
          (λ bytes rest. (heading_order old.dialect old.table old.has_header (lines_left old bytes) ≡ Ok order) × (below_heading old.has_header (lines_left old bytes) ≡ takes.1 ++ lines_of (new.pending ++ rest)))
          (λ bytes rest. EndsLine (old.pending ++ bytes) → AreWhole (new.pending ++ rest) × ((more : List ℕ) → to_come old (bytes ++ more) ≡ before_rows takes.2 (to_come new (rest ++ more)))) (λ x y p ends.
          let text : List ℕ = old.pending ++ x in
          let lines : List TextLine = lines_of (unmarked text) in
          let left : lines_left old x ≡ lines = left_none old x none in
          let orders : heading_order old.dialect old.table old.has_header lines ≡ Ok order = ap (heading_order old.dialect old.table old.has_header) (sym left) ∙ p.0 in
          let below : below_heading old.has_header lines ≡ takes.1 ++ lines_of (new.pending ++ y) = ap (below_heading old.has_header) (sym left) ∙ p.1 in
          let whole : AreWhole (new.pending ++ y) =
          whole_left (below_heading old.has_header lines) takes.1 (new.pending ++ y) (below_ended old.has_header lines (ended_lines (unmarked text) (unmarked_ends text ends))) below in (
            whole,
            λ more. come_none old (x ++ more) none
                ∙ ap (λ (t : List ℕ). lines_rows old.dialect old.table old.has_header (lines_of (unmarked t))) (sym (append_assoc old.pending x more))
                ∙ ap (λ (t : List ℕ). lines_rows old.dialect old.table old.has_header (lines_of t)) (unmarked_on text more ends)
                ∙ ap (lines_rows old.dialect old.table old.has_header) (lines_on (unmarked text) more (unmarked_ends text ends))
                ∙ rows_below old.dialect old.table old.has_header lines (lines_of more) order orders
                ∙ rows_on old.dialect old.table.columns order (headings old.has_header) new.number (below_heading old.has_header lines) takes.1 (new.pending ++ y) more takes.2 whole below read counted
                ∙ ap (λ (t : List ℕ). before_rows takes.2 (rows_from old.dialect old.table.columns order (suc new.number) (lines_of t))) (append_assoc new.pending y more)
                ∙ ap (before_rows takes.2) (come_next old new order new.number (y ++ more) (kept ∙ begins.1) (same' ∙ same) (alike' ∙ alike) refl),
          )) a c (first_lines old mid new order takes.1 a b c begins.3 takes.7),
    )

-- ---- a text begins

pub begins_without : (old new : Reading) (a b : Option (List ℕ)) → old.order ≡ None → old.has_header ≡ false → new.order ≡ Some (plain_order old.dialect.order old.table.columns) → new.number ≡ 0 → Unmarks old.pending new.pending a b → Begins old new a b
begins_without old new a b none plain some first gone =
    let order : List (Option ℕ) = plain_order old.dialect.order old.table.columns in (
      order,
      some,
      first ∙ ap headings (sym plain),
      known_map (λ bytes rest. unmarked (old.pending ++ bytes) ≡ new.pending ++ rest)
          (λ bytes rest. (heading_order old.dialect old.table old.has_header (lines_left old bytes) ≡ Ok order) × (lines_of (new.pending ++ rest) ≡ below_heading old.has_header (lines_left old bytes))) (λ x y p. (
            ap (λ (has : Bool). heading_order old.dialect old.table has (lines_left old x)) plain,
            ap lines_of (sym p) ∙ sym (left_none old x none) ∙ ap (λ (has : Bool). below_heading has (lines_left old x)) (sym plain),
          )) a b gone,
    )

pub begins_with : (old new : Reading) (order : List (Option ℕ)) (mid lines : LinesForm) (a b c : Option (List ℕ)) → old.order ≡ None → old.has_header ≡ true → new.order ≡ Some order → new.number ≡ 1 → new.pending ≡ lines.pending
    → Unmarks old.pending mid.pending a b → ReadsHeading old.dialect old.table.columns mid lines order b c → Begins old new a c
begins_with old new order mid lines a b c none headed some first pending gone read = (
  order,
  some,
  first ∙ ap headings (sym headed),
  known_both (λ bytes rest. unmarked (old.pending ++ bytes) ≡ mid.pending ++ rest) (λ bytes rest. lines_of (mid.pending ++ bytes) ≡ read.0 ∷ lines_of (lines.pending ++ rest))
      (λ bytes rest. (heading_order old.dialect old.table old.has_header (lines_left old bytes) ≡ Ok order) × (lines_of (new.pending ++ rest) ≡ below_heading old.has_header (lines_left old bytes))) (λ x y z p q.
      let left : lines_left old x ≡ read.0 ∷ lines_of (lines.pending ++ z) = left_none old x none ∙ ap lines_of p ∙ q in (
        (λ i. heading_order old.dialect old.table (headed i) (left i)) ∙ read.1,
        ap (λ (t : List ℕ). lines_of (t ++ z)) pending ∙ (λ i. below_heading (sym headed i) (sym left i)),
      )) a b c gone read.2,
)

pub began_later : (old new : Reading) (order : List (Option ℕ)) (a : Option (List ℕ)) → old.order ≡ Some order → new.order ≡ old.order → Began old new a
began_later old new order a some kept =
    known_self (λ bytes rest. (o : List (Option ℕ)) × (new.order ≡ Some o) × (order_given old old.order bytes ≡ Ok o)) (λ x. (order, kept ∙ some, (λ i. order_given old (some i) x))) a

pub began_first : (old mid new : Reading) (a b : Option (List ℕ)) → old.order ≡ None → new.order ≡ mid.order → Begins old mid a b → Began old new a
began_first old mid new a b none kept begins =
    known_before
    (λ bytes rest. (heading_order old.dialect old.table old.has_header (lines_left old bytes) ≡ Ok begins.0) × (lines_of (mid.pending ++ rest) ≡ below_heading old.has_header (lines_left old bytes)))
    (λ bytes rest. (o : List (Option ℕ)) × (new.order ≡ Some o) × (order_given old old.order bytes ≡ Ok o)) (λ x y p. (begins.0, kept ∙ begins.1, (λ i. order_given old (none i) x) ∙ p.0)) a b begins.3

-- ---- lines are counted

pub counts_later : (old new : Reading) (rows rows' : Batch) (a b : Option (List ℕ)) → RowsOfLines old new rows rows' a b → CountsOn old new a b
counts_later old new rows rows' a b takes =
    known_map (λ bytes rest. lines_of (old.pending ++ bytes) ≡ takes.1 ++ lines_of (new.pending ++ rest)) (λ bytes rest. old.number + length (lines_left old bytes) ≡ new.number + length (lines_of (new.pending ++ rest)))
    (λ x y p.
    let lengths : length (lines_left old x) ≡ length takes.1 + length (lines_of (new.pending ++ y)) = ap length (left_some old takes.0 x takes.3 ∙ p) ∙ length-append takes.1 (lines_of (new.pending ++ y)) in
    omega (arith, lengths, takes.6)) a b takes.7

header_counted : (dialect : DialectForm) (table : Table) (has : Bool) (lines : List TextLine) (order : List (Option ℕ)) → heading_order dialect table has lines ≡ Ok order → length lines ≡ headings has + length (below_heading has lines)
header_counted dialect table false lines order is = omega arith
header_counted dialect table true [] order is = cc
header_counted dialect table true (heading ∷ lines) order is = omega arith

pub counts_first : (old mid new : Reading) (rows rows' : Batch) (a b c : Option (List ℕ)) → old.number ≡ 0 → Begins old mid a b → RowsOfLines mid new rows rows' b c → CountsOn old new a c
counts_first old mid new rows rows' a b c nothing begins takes =
    known_map (λ bytes rest. (heading_order old.dialect old.table old.has_header (lines_left old bytes) ≡ Ok begins.0) × (below_heading old.has_header (lines_left old bytes) ≡ takes.1 ++ lines_of (new.pending ++ rest)))
    (λ bytes rest. old.number + length (lines_left old bytes) ≡ new.number + length (lines_of (new.pending ++ rest)))
    (λ x y p.
    let all : length (lines_left old x) ≡ headings old.has_header + length (below_heading old.has_header (lines_left old x)) = header_counted old.dialect old.table old.has_header (lines_left old x) begins.0 p.0 in
    let lengths : length (below_heading old.has_header (lines_left old x)) ≡ length takes.1 + length (lines_of (new.pending ++ y)) = ap length p.1 ∙ length-append takes.1 (lines_of (new.pending ++ y)) in
    omega (arith, all, lengths, begins.2, takes.6, nothing)) a c (first_lines old mid new begins.0 takes.1 a b c begins.3 takes.7)

pub at_line_after_begin : (old mid new : Reading) (a b c : Option (List ℕ)) → Same old mid a b → IsAtLine new b c → IsAtLine new a c
at_line_after_begin old mid new a b c begun at =
    known_both (λ bytes rest. to_come old bytes ≡ to_come mid rest) (λ bytes rest. lines_of (new.pending ++ rest) ≡ []) (λ bytes rest. lines_of (new.pending ++ rest) ≡ []) (λ x y z p q. q) a b c begun at

-- ---- the first fault

-- the place where a reader is
abbrev place_of : ℕ → Option (List (Option ℕ)) → Option Place
place_of number None = None
place_of number (Some order) = Some (record { order = order; number = number })

behind : (csv : Reading) (order : Option (List (Option ℕ))) (bytes : List ℕ) → rows_after csv order bytes ≡ rows_behind csv.dialect csv.table csv.has_header (place_of csv.number order) bytes
behind csv None bytes = refl
behind csv (Some order) bytes = refl

stays : (csv : Reading) (fault : CsvError) (a : Option (List ℕ)) → AsKnown (λ bytes rest. to_come csv bytes ≡ Err fault) a a → AsKnown (λ bytes rest. EndsLine (csv.pending ++ bytes) → (more : List ℕ) → to_come csv (bytes ++ more) ≡ Err fault) a a
stays csv fault a refused =
    known_map (λ bytes rest. to_come csv bytes ≡ Err fault) (λ bytes rest. EndsLine (csv.pending ++ bytes) → (more : List ℕ) → to_come csv (bytes ++ more) ≡ Err fault)
    (λ x y p ends more. behind csv csv.order (csv.pending ++ (x ++ more))
    ∙ ap (rows_behind csv.dialect csv.table csv.has_header (place_of csv.number csv.order)) (sym (append_assoc csv.pending x more))
    ∙ fault_stays csv.dialect csv.table csv.has_header (place_of csv.number csv.order) (csv.pending ++ x) more fault ends (sym (behind csv csv.order (csv.pending ++ x)) ∙ p)) a a refused

pub refuses_on : (csv : Reading) (e : CsvError) (a : Option (List ℕ)) → Refuses csv e a → RefusesOn csv e a
refuses_on csv (Refused refusal) a refused = tt
refuses_on csv (BadCsv line column) a refused = stays csv (BadCsv line column) a refused
refuses_on csv (LineTooLong line) a refused = stays csv (LineTooLong line) a refused
