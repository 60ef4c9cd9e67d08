-- Texts of comma-separated values that are cut behind line feeds into pieces.
use Rattle.std.specs.Prelude.{◌≡◌, ℕ, suc, ◌+◌, Bool, List, [], ◌∷◌, ◌++◌, length, Option, Some, None, Result, Ok, Err}
use Rattle.table_model.specs.State.{Batch}
use Rattle.table_model.specs.Table.{Table}
use Rattle.csv_rows.specs.CsvText.{◌>>=◌, before_rows, heading_order, rows_from, rows_in}
use Rattle.csv_rows.specs.DialectForm.{DialectForm}
use Rattle.csv_rows.specs.Line.{EndsLine, lines_of, unmarked}
use Rattle.csv_rows.specs.declared.error.CsvError.{CsvError}

-- A place in a text, between two lines: the order of the columns, and how many lines are before it.
pub record Place : Type 0 where
  pub order : List (Option ℕ)
  pub number : ℕ

-- the rows of the bytes behind a place, or the first fault; without a place, those of a whole text
abbrev pub rows_behind : DialectForm → Table → Bool → Option Place → List ℕ → Result Batch CsvError
rows_behind dialect table has_header None text = rows_in dialect table has_header text
rows_behind dialect table has_header (Some place) text = rows_from dialect table.columns place.order (suc place.number) (lines_of text)

-- the place behind so many lines, if their order is known
abbrev pub place_after : ℕ → Result (List (Option ℕ)) CsvError → Option Place
place_after number (Ok order) = Some (record { order = order; number = number })
place_after number (Err fault) = None

-- the place behind a text of lines that begins at a place, or at the head of the whole text
abbrev pub place_behind : DialectForm → Table → Bool → Option Place → List ℕ → Option Place
place_behind dialect table has_header None text = place_after (length (lines_of (unmarked text))) (heading_order dialect table has_header (lines_of (unmarked text)))
place_behind dialect table has_header (Some place) text = place_after (place.number + length (lines_of text)) (Ok place.order)

-- the text that pieces make
abbrev pub joined : List ℕ → List (List ℕ) → List ℕ
joined first [] = first
joined first (next ∷ pieces) = first ++ joined next pieces

-- each piece but the last ends with a line feed
abbrev pub AreCut : List ℕ → List (List ℕ) → Type 0
AreCut first [] = Unit {0}
AreCut first (next ∷ pieces) = EndsLine first × AreCut next pieces

-- the rows of pieces, one piece after another, each read from the place where the one before it ended; or the first fault
abbrev pub rows_of_pieces : DialectForm → Table → Bool → Option Place → List ℕ → List (List ℕ) → Result Batch CsvError
rows_of_pieces dialect table has_header place first [] = rows_behind dialect table has_header place first
rows_of_pieces dialect table has_header place first (next ∷ pieces) =
    rows_behind dialect table has_header place first >>= (λ rows. before_rows rows (rows_of_pieces dialect table has_header (place_behind dialect table has_header place first) next pieces))

-- the rows of a text that is cut behind line feeds are those of its pieces, one piece after another, and so is its first fault
abbrev pub PiecesAreRead : Type 0
PiecesAreRead =
    (dialect : DialectForm) (table : Table) (has_header : Bool) (first : List ℕ) (pieces : List (List ℕ)) → AreCut first pieces
    → rows_in dialect table has_header (joined first pieces) ≡ rows_of_pieces dialect table has_header None first pieces

-- the first fault of whole lines is that of every text that begins with them, at the same place
abbrev pub FirstFaultsStay : Type 0
FirstFaultsStay =
    (dialect : DialectForm) (table : Table) (has_header : Bool) (front : List ℕ) (fault : CsvError) → EndsLine front → rows_in dialect table has_header front ≡ Err fault
    → (more : List ℕ) → rows_in dialect table has_header (front ++ more) ≡ Err fault
