-- Whole lines are read to their end: rows have room for all of them, so none is left.
use Rattle.std.specs.Prelude.{◌≡◌, ℕ, ◌+◌, ◌<◌, ◌≤◌, Bool, true, false, nat_lt, List, [], ◌∷◌, ◌++◌, length, Option, Some, Result, Ok}
use Rattle.std.proofs.Common.{refl, sym, ap, ◌∙◌, arith, inl, inr}
use Rattle.std.proofs.lemmas.Bool.Decides.{nat_tests}
use Rattle.std.proofs.lemmas.List.{append-nil}
use Rattle.table_model.specs.State.{Batch}
use Rattle.table_model.specs.Table.{row_limit}
use Rattle.csv_rows.specs.CsvText.{before_rows}
use Rattle.csv_rows.specs.Line.{TextLine, lines_of, AreWhole}
use Rattle.csv_rows.specs.Reading.{Reading, Filled, GoesOn, Refuses, RefusesOn, lines_left, rows_after, to_come}
use Rattle.csv_rows.specs.declared.error.CsvError.{CsvError}
use Rattle.csv_rows.specs.declared.error.CsvError.TheVariants.{BadCsv, LineTooLong, Refused}
use Rattle.csv_rows.proofs.Wholes.{some_line, whole_left}
use Rattle.csv_pieces.specs.PieceReading.{ReadsText, ReadsOnward, RefusesText}

-- a text without lines has no bytes
pub no_bytes : (text : List ℕ) → lines_of text ≡ [] → text ≡ []
no_bytes text none = by (whole_left [] [] text tt (sym none)) where
  by : AreWhole text → text ≡ []
  by (inl is) = is
  by (inr ends) = let some = some_line text ends in let both : some.0 ∷ some.1 ≡ [] = sym some.2 ∙ none in cc

no_lines : (lines : List TextLine) → length lines ≡ 0 → lines ≡ []
no_lines [] e = refl
no_lines (line ∷ lines) e = absurd (omega arith)

nothing_front : (a b : List ℕ) → a ++ b ≡ [] → a ≡ []
nothing_front [] b e = refl
nothing_front (x ∷ a) b e = cc

nothing_back : (a b : List ℕ) → a ++ b ≡ [] → b ≡ []
nothing_back [] b e = e
nothing_back (x ∷ a) b e = cc

-- What a call said of a reader that has room for the rows of all lines.
pub record Called (old new : Reading) (rows rows' : Batch) (text rest : List ℕ) : Type 0 where
  pub few : length rows < row_limit
  pub room : length rows + length (lines_left old text) ≤ row_limit
  pub none : old.pending ≡ []
  pub filled : Filled old new rows rows' (Some text) (Some rest)
  pub onward : GoesOn old new rows rows' (Some text) (Some rest)
  pub counted : old.number + length (lines_left old text) ≡ new.number + length (lines_of (new.pending ++ rest))
  pub further : old.number + length rows' ≤ new.number + length rows
  pub limit : length rows' ≤ row_limit
  pub between : length rows' < row_limit → lines_of (new.pending ++ rest) ≡ []
  pub began : (order : List (Option ℕ)) × (new.order ≡ Some order)

-- no byte is left
pub none_left : (old new : Reading) (rows rows' : Batch) (text rest : List ℕ) → Called old new rows rows' text rest → new.pending ++ rest ≡ []
none_left old new rows rows' text rest called = no_bytes (new.pending ++ rest) (by (nat_lt (length rows') row_limit) refl) where
  by : (t : Bool) → nat_lt (length rows') row_limit ≡ t → lines_of (new.pending ++ rest) ≡ []
  by true e = let below : length rows' < row_limit = grind (arith, nat_tests) in called.between below
  by false e =
      let full : row_limit ≤ length rows' = grind (arith, nat_tests) in
      no_lines (lines_of (new.pending ++ rest)) (omega (arith, full, called.counted, called.further, called.room, called.limit))

pub pending_none : (old new : Reading) (rows rows' : Batch) (text rest : List ℕ) → Called old new rows rows' text rest → new.pending ≡ []
pending_none old new rows rows' text rest called = nothing_front new.pending rest (none_left old new rows rows' text rest called)

ok_all : (made : Batch) (r : Result Batch CsvError) → r ≡ Ok [] → before_rows made r ≡ Ok made
ok_all made r e = ap (before_rows made) e ∙ ap Ok (append-nil made)

pub reads_text : (old new : Reading) (rows rows' : Batch) (text rest : List ℕ) → Called old new rows rows' text rest → ReadsText old rows rows' text
reads_text old new rows rows' text rest called =
    let gone = none_left old new rows rows' text rest called in
    let last : to_come new rest ≡ Ok [] = (λ i. rows_after new (called.began.1 i) (gone i)) in
    (called.filled.0, called.filled.1, called.filled.2 ∙ ok_all called.filled.0 (to_come new rest) last)

pub reads_onward : (old new : Reading) (rows rows' : Batch) (text rest : List ℕ) → Called old new rows rows' text rest → ReadsOnward old new rows rows' text
reads_onward old new rows rows' text rest called =
    let gone = nothing_back new.pending rest (none_left old new rows rows' text rest called) in (
      called.onward.0,
      called.onward.1,
      λ ends more. (called.onward.2 (ends.0, ap (λ (p : List ℕ). p ++ text) called.none ∙ ends.1)).1 more ∙ ap (λ (t : List ℕ). before_rows called.onward.0 (to_come new (t ++ more))) gone,
    )

pub refuses_text : (old : Reading) (e : CsvError) (text : List ℕ) → old.pending ≡ [] → Refuses old e (Some text) → RefusesOn old e (Some text) → RefusesText old e text
refuses_text old (Refused refusal) text none refused onward = tt
refuses_text old (BadCsv line column) text none refused onward = (refused, λ ends more. onward (ends.0, ap (λ (p : List ℕ). p ++ text) none ∙ ends.1) more)
refuses_text old (LineTooLong line) text none refused onward = (refused, λ ends more. onward (ends.0, ap (λ (p : List ℕ). p ++ text) none ∙ ends.1) more)
