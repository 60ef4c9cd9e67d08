-- The rows of a text that is cut behind line feeds, piece by piece.
use Rattle.std.specs.Prelude.{◌≡◌, ℕ, suc, ◌+◌, Bool, true, false, List, [], ◌∷◌, ◌++◌, length, Option, Some, None, Result, Ok, Err}
use Rattle.std.proofs.Common.{refl, sym, ap, ◌∙◌, arith, subst}
use Rattle.table_model.specs.State.{Batch}
use Rattle.table_model.specs.Table.{Table}
use Rattle.csv_rows.specs.CsvText.{◌>>=◌, before_rows, rows_from, header_order, heading_order, lines_rows, plain_order}
use Rattle.csv_rows.specs.CutTexts.{Place, place_after, place_behind, rows_behind, rows_of_pieces, joined, AreCut}
use Rattle.csv_rows.specs.DialectForm.{DialectForm}
use Rattle.csv_rows.specs.Line.{TextLine, lines_of, unmarked, EndsLine}
use Rattle.csv_rows.specs.declared.error.CsvError.{CsvError}
use Rattle.csv_rows.proofs.Cuts.{rows_both}
use Rattle.csv_rows.proofs.Wholes.{lines_on, some_line, unmarked_ends, unmarked_on}

-- lines that go on, of a text without a header or with one
abbrev Before : DialectForm → Table → Bool → List TextLine → List ℕ → Type 0
Before dialect table has lines more =
    lines_rows dialect table has (lines ++ lines_of more) ≡ (lines_rows dialect table has lines >>= (λ rows. before_rows rows (rows_behind dialect table has (place_after (length lines) (heading_order dialect table has lines)) more)))

headed : (dialect : DialectForm) (table : Table) (heading : TextLine) (lines : List TextLine) (more : List ℕ) (r : Result (List (Option ℕ)) CsvError)
    → (r >>= (λ order. rows_from dialect table.columns order 2 (lines ++ lines_of more)))
    ≡ ((r >>= (λ order. rows_from dialect table.columns order 2 lines)) >>= (λ rows. before_rows rows (rows_behind dialect table true (place_after (suc (length lines)) r) more)))
headed dialect table heading lines more (Err fault) = refl
headed dialect table heading lines more (Ok order) =
    let same : 2 + length lines ≡ suc (suc (length lines)) = omega arith in
    rows_both dialect table.columns order 2 lines (lines_of more)
    ∙ ap (λ (n : ℕ). rows_from dialect table.columns order 2 lines >>= (λ rows. before_rows rows (rows_from dialect table.columns order n (lines_of more)))) same

before : (dialect : DialectForm) (table : Table) (has : Bool) (heading : TextLine) (lines : List TextLine) (more : List ℕ) → Before dialect table has (heading ∷ lines) more
before dialect table false heading lines more =
    let same : 1 + length (heading ∷ lines) ≡ suc (length (heading ∷ lines)) = omega arith in
    rows_both dialect table.columns (plain_order dialect.order table.columns) 1 (heading ∷ lines) (lines_of more)
    ∙ ap (λ (n : ℕ). rows_from dialect table.columns (plain_order dialect.order table.columns) 1 (heading ∷ lines) >>= (λ rows. before_rows rows (rows_from dialect table.columns (plain_order dialect.order table.columns) n (lines_of more)))) same
before dialect table true heading lines more = headed dialect table heading lines more (header_order dialect table.columns heading)

-- the rows of a text that goes on behind a line feed
pub rows_go_on : (dialect : DialectForm) (table : Table) (has : Bool) (place : Option Place) (front more : List ℕ) → EndsLine front
    → rows_behind dialect table has place (front ++ more) ≡ (rows_behind dialect table has place front >>= (λ rows. before_rows rows (rows_behind dialect table has (place_behind dialect table has place front) more)))
rows_go_on dialect table has (Some place) front more ends =
    let same : suc place.number + length (lines_of front) ≡ suc (place.number + length (lines_of front)) = omega arith in
    ap (rows_from dialect table.columns place.order (suc place.number)) (lines_on front more ends)
    ∙ rows_both dialect table.columns place.order (suc place.number) (lines_of front) (lines_of more)
    ∙ ap (λ (n : ℕ). rows_from dialect table.columns place.order (suc place.number) (lines_of front) >>= (λ rows. before_rows rows (rows_from dialect table.columns place.order n (lines_of more)))) same
rows_go_on dialect table has None front more ends =
    let some = some_line (unmarked front) (unmarked_ends front ends) in
    ap (λ (text : List ℕ). lines_rows dialect table has (lines_of text)) (unmarked_on front more ends)
    ∙ ap (lines_rows dialect table has) (lines_on (unmarked front) more (unmarked_ends front ends))
    ∙ subst (λ (lines : List TextLine). Before dialect table has lines more) (sym some.2) (before dialect table has some.0 some.1 more)

pub pieces_are_read : (dialect : DialectForm) (table : Table) (has : Bool) (place : Option Place) (first : List ℕ) (pieces : List (List ℕ)) → AreCut first pieces
    → rows_behind dialect table has place (joined first pieces) ≡ rows_of_pieces dialect table has place first pieces
pieces_are_read dialect table has place first [] cut = refl
pieces_are_read dialect table has place first (next ∷ pieces) cut =
    rows_go_on dialect table has place first (joined next pieces) cut.0
    ∙ ap (λ (r : Result Batch CsvError). rows_behind dialect table has place first >>= (λ rows. before_rows rows r)) (pieces_are_read dialect table has (place_behind dialect table has place first) next pieces cut.1)

-- the first fault is that of each text that goes on
pub fault_stays : (dialect : DialectForm) (table : Table) (has : Bool) (place : Option Place) (front more : List ℕ) (fault : CsvError) → EndsLine front → rows_behind dialect table has place front ≡ Err fault
    → rows_behind dialect table has place (front ++ more) ≡ Err fault
fault_stays dialect table has place front more fault ends is =
    rows_go_on dialect table has place front more ends
    ∙ ap (λ (r : Result Batch CsvError). r >>= (λ rows. before_rows rows (rows_behind dialect table has (place_behind dialect table has place front) more))) is
